-- The forest of a tree within the limits keeps the rules of a table: own bytes, sorts and children.
-- Assumes nothing.
use Rattle.std.specs.Prelude.{◌≡◌, refl, true, false, List, [], ◌∷◌, ℕ, ◌+◌, ◌≤◌, ◌<◌, replicate}
use Rattle.words.specs.Prelude.{◌∙◌, ap, lt-ltb, le-leb, arith}
use Rattle.words.specs.{Limits.most_reach, Limits.most_slots, Limits.most_nodes}
use Rattle.table.specs.{declared.nodes.Node.Node, declared.kinds.Kind.Kind, declared.header.Form.Form, declared.series.Series.Series}
use Rattle.table.specs.{declared.series.Series.TheVariants.Price, declared.series.Series.TheVariants.Slot, Kinds.kinds, Kinds.kind_of, Kinds.versions}
use Rattle.table.specs.{Kinds.since_of, Kinds.takes_series, Kinds.previous, Kinds.arithmetic, Kinds.extremum, Kinds.comparison, Kinds.crossing, Kinds.all_of}
use Rattle.table.specs.{Kinds.any_of, Kinds.negation, Nodes.child_count, Nodes.child_fits, Nodes.kind_right, Nodes.fields_right, Nodes.children_right, Nodes.n_right}
use Rattle.table.specs.{Nodes.constant_right, Nodes.own_right, Forest.Forest, Forest.sorts, Forest.Fitting, Forest.Sorted, Trees.Operand, Trees.const, Trees.ref}
use Rattle.table.specs.{Trees.price, Trees.prev, Trees.arith as sums, Trees.extreme, Trees.Condition, Trees.Conditions, Trees.compare, Trees.cross}
use Rattle.table.specs.{Trees.between, Trees.trend, Trees.every, Trees.any, Trees.negated, Trees.in_position, Trees.bars_since, Trees.none, Trees.more}
use Rattle.table.specs.{Writing.many_of, Writing.nodes_in, Writing.nodes_of, Writing.nodes_of_all, Limits.WithinSeries, Limits.Within, Limits.WithinOf}
use Rattle.table.specs.{Limits.WithinAll, Laws.Kinds.known}
use Rattle.roundtrip.specs.{Laws.OwnBytes.NodeFits, Laws.OwnBytes.FieldsFit, Laws.Writing.Right, Laws.WrittenForest.plant_series, Laws.WrittenForest.plant}
use Rattle.roundtrip.specs.{Laws.WrittenForest.plant_of, Laws.WrittenForest.plant_all, Laws.WrittenForest.nd, Laws.WrittenForest.some_nodes}
use Rattle.table.specs.Kinds as Kinds

-- ---- own bytes

module _ (form : Form) where
  right_series : (s : Series) (i : ℕ) → WithinSeries form s → Right form (plant_series i s)
  unfolding WithinSeries plant_series Right kind_of kinds since_of versions own_right kind_right fields_right children_right n_right constant_right
  right_series (Price s) i w = (rw (lt-ltb s 7 w), tt, tt)
  right_series (Slot s) i w = (rw (lt-ltb s form.slots w), tt, tt)

  pub right : (a : Operand) (i : ℕ) (rest : Forest) → Within form a → Right form rest → Right form (plant i a rest)
  unfolding Within plant Right kind_of kinds since_of versions own_right kind_right fields_right children_right n_right constant_right
  right (const x) i rest w r = (w.1, tt, r)
  right (ref s) i rest w r = (rw (lt-ltb s form.slots w), tt, r)
  right (price s) i rest w r = (rw (lt-ltb s 7 w), tt, r)
  right (prev a n) i rest w r = (refl, right a (i + 1) Forest.none w.1 tt, r)
  right (sums kind a b) i rest w r =
      (rw (w.0, w.3), right a (i + 1) _ w.1 (right b (i + 1 + nodes_in a) Forest.none w.2 tt), r)
  right (extreme kind s n) i rest w r =
      (rw (w.0, w.1, le-leb 1 n w.2, le-leb n most_reach w.3), right_series s (i + 1) w.4, r)

  mutual
    unfolding WithinOf plant_of Right kind_of kinds since_of versions own_right kind_right fields_right children_right n_right constant_right

    pub right_of : (c : Condition) (i : ℕ) (rest : Forest) → WithinOf form c → Right form rest → Right form (plant_of i c rest)
    right_of (compare kind a b) i rest w r =
        (rw (w.0, w.3), right a (i + 1) _ w.1 (right b (i + 1 + nodes_in a) Forest.none w.2 tt), r)
    right_of (cross kind a b) i rest w r =
        (rw (w.0, w.3), right a (i + 1) _ w.1 (right b (i + 1 + nodes_in a) Forest.none w.2 tt), r)
    right_of (between x a b) i rest w r =
        (refl, right x (i + 1) _ w.0 (right a (i + 1 + nodes_in x) _ w.1 (right b (i + 1 + nodes_in x + nodes_in a) Forest.none w.2 tt)), r)
    right_of (trend kind a n) i rest w r = (rw (w.0, w.3), right a (i + 1) Forest.none w.2 tt, r)
    right_of (every cs) i rest w r = (refl, right_all cs (i + 1) Forest.none w tt, r)
    right_of (any cs) i rest w r = (refl, right_all cs (i + 1) Forest.none w tt, r)
    right_of (negated c) i rest w r = (refl, right_of c (i + 1) Forest.none w tt, r)
    right_of (in_position true) i rest w r = (refl, tt, r)
    right_of (in_position false) i rest w r = (refl, tt, r)
    right_of (bars_since s n) i rest w r = (rw (lt-ltb s 5 w.0), tt, r)

    pub right_all : (cs : Conditions) (i : ℕ) (rest : Forest) → WithinAll form cs → Right form rest → Right form (plant_all i cs rest)
    right_all none i rest w r = r
    right_all (more c cs) i rest w r = right_of c i _ w.0 (right_all cs (i + nodes_of c) rest w.1 r)

-- ---- sorts and children

plant-sorts : (i : ℕ) (a : Operand) (rest : Forest) (form : Form) → Within form a → sorts (plant i a rest) ≡ 1 ∷ sorts rest
unfolding Within plant sorts kind_of kinds
plant-sorts i (const x) rest form w = refl
plant-sorts i (ref s) rest form w = refl
plant-sorts i (price s) rest form w = refl
plant-sorts i (prev a n) rest form w = refl
plant-sorts i (sums kind a b) rest form w = rw w.0
plant-sorts i (extreme kind s n) rest form w = rw w.0

pub plant_of-sorts : (i : ℕ) (c : Condition) (rest : Forest) (form : Form) → WithinOf form c → sorts (plant_of i c rest) ≡ 2 ∷ sorts rest
unfolding WithinOf plant_of sorts kind_of kinds
plant_of-sorts i (compare kind a b) rest form w = rw w.0
plant_of-sorts i (cross kind a b) rest form w = rw w.0
plant_of-sorts i (between x a b) rest form w = refl
plant_of-sorts i (trend kind a n) rest form w = rw w.0
plant_of-sorts i (every cs) rest form w = refl
plant_of-sorts i (any cs) rest form w = refl
plant_of-sorts i (negated c) rest form w = refl
plant_of-sorts i (in_position want) rest form w = refl
plant_of-sorts i (bars_since s n) rest form w = refl

plant_all-sorts : (i : ℕ) (cs : Conditions) (form : Form) → WithinAll form cs → sorts (plant_all i cs Forest.none) ≡ replicate (many_of cs) 2
unfolding WithinAll plant_all sorts many_of
plant_all-sorts i none form w = refl
plant_all-sorts i (more c cs) form w = plant_of-sorts i c _ form w.0 ∙ ap (λ (l : List ℕ). 2 ∷ l) (plant_all-sorts (i + nodes_of c) cs form w.1)

-- a node whose kind takes any child of its sort
fits_any : (n : Node) (row : Kind) (f : Forest) → kind_of n.kind ≡ row → takes_series row.series ≡ false → Fitting n f
unfolding Fitting child_fits
fits_any n row Forest.none h other = tt
fits_any n row (Forest.tree c below rest) h other = rw (h, other)

fits-none : (n : Node) → Fitting n Forest.none
unfolding Fitting
fits-none n = tt

-- and one that takes a series
series_fits : (n : Node) (i : ℕ) (s : Series) → kind_of n.kind ≡ extremum → Fitting n (plant_series i s)
unfolding Fitting child_fits plant_series kind_of kinds
series_fits n i (Price s) h = rw h
series_fits n i (Slot s) h = rw h

series_sorts : (i : ℕ) (s : Series) → sorts (plant_series i s) ≡ 1 ∷ []
unfolding sorts plant_series kind_of kinds
series_sorts i (Price s) = refl
series_sorts i (Slot s) = refl

series_sorted : (i : ℕ) (s : Series) → Sorted (plant_series i s)
unfolding Sorted Fitting sorts plant_series kind_of kinds child_count
series_sorted i (Price s) = (refl, tt, tt, tt)
series_sorted i (Slot s) = (refl, tt, tt, tt)

module _ (form : Form) where
  one_below : (i : ℕ) (a : Operand) → Within form a → sorts (plant i a Forest.none) ≡ replicate 1 1
  unfolding sorts
  one_below i a w = plant-sorts i a Forest.none form w

  two_below : (i j : ℕ) (a b : Operand) → Within form a → Within form b → sorts (plant i a (plant j b Forest.none)) ≡ replicate 2 1
  two_below i j a b wa wb = plant-sorts i a _ form wa ∙ ap (λ (l : List ℕ). 1 ∷ l) (one_below j b wb)

  three_below : (h i j : ℕ) (x a b : Operand) → Within form x → Within form a → Within form b
      → sorts (plant h x (plant i a (plant j b Forest.none))) ≡ replicate 3 1
  three_below h i j x a b wx wa wb = plant-sorts h x _ form wx ∙ ap (λ (l : List ℕ). 1 ∷ l) (two_below i j a b wa wb)

  pub sorted : (a : Operand) (i : ℕ) (rest : Forest) → Within form a → Sorted rest → Sorted (plant i a rest)
  unfolding Within plant Sorted kind_of kinds child_count sorts
  sorted (const x) i rest w r = (refl, tt, r, fits-none _)
  sorted (ref s) i rest w r = (refl, tt, r, fits-none _)
  sorted (price s) i rest w r = (refl, tt, r, fits-none _)
  sorted (prev a n) i rest w r = (one_below (i + 1) a w.1, sorted a (i + 1) Forest.none w.1 tt, r, fits_any _ previous _ refl refl)
  sorted (sums kind a b) i rest w r = (
    rw w.0 (two_below (i + 1) (i + 1 + nodes_in a) a b w.1 w.2),
    sorted a (i + 1) _ w.1 (sorted b (i + 1 + nodes_in a) Forest.none w.2 tt),
    r,
    fits_any _ arithmetic _ w.0 refl,
  )
  sorted (extreme kind s n) i rest w r = (rw w.0 (series_sorts (i + 1) s), series_sorted (i + 1) s, r, series_fits _ (i + 1) s w.0)

  mutual
    unfolding WithinOf plant_of Sorted kind_of kinds child_count sorts

    pub sorted_of : (c : Condition) (i : ℕ) (rest : Forest) → WithinOf form c → Sorted rest → Sorted (plant_of i c rest)
    sorted_of (compare kind a b) i rest w r = (
      rw w.0 (two_below (i + 1) (i + 1 + nodes_in a) a b w.1 w.2),
      sorted a (i + 1) _ w.1 (sorted b (i + 1 + nodes_in a) Forest.none w.2 tt),
      r,
      fits_any _ comparison _ w.0 refl,
    )
    sorted_of (cross kind a b) i rest w r = (
      rw w.0 (two_below (i + 1) (i + 1 + nodes_in a) a b w.1 w.2),
      sorted a (i + 1) _ w.1 (sorted b (i + 1 + nodes_in a) Forest.none w.2 tt),
      r,
      fits_any _ crossing _ w.0 refl,
    )
    sorted_of (between x a b) i rest w r = (
      three_below (i + 1) (i + 1 + nodes_in x) (i + 1 + nodes_in x + nodes_in a) x a b w.0 w.1 w.2,
      sorted x (i + 1) _ w.0 (sorted a (i + 1 + nodes_in x) _ w.1 (sorted b (i + 1 + nodes_in x + nodes_in a) Forest.none w.2 tt)),
      r,
      fits_any _ Kinds.between _ refl refl,
    )
    sorted_of (trend kind a n) i rest w r =
        (rw w.0 (one_below (i + 1) a w.2), sorted a (i + 1) Forest.none w.2 tt, r, fits_any _ Kinds.trend _ w.0 refl)
    sorted_of (every cs) i rest w r = (plant_all-sorts (i + 1) cs form w, sorted_all cs (i + 1) Forest.none w tt, r, fits_any _ all_of _ refl refl)
    sorted_of (any cs) i rest w r = (plant_all-sorts (i + 1) cs form w, sorted_all cs (i + 1) Forest.none w tt, r, fits_any _ any_of _ refl refl)
    sorted_of (negated c) i rest w r = (plant_of-sorts (i + 1) c Forest.none form w, sorted_of c (i + 1) Forest.none w tt, r, fits_any _ negation _ refl refl)
    sorted_of (in_position want) i rest w r = (refl, tt, r, fits-none _)
    sorted_of (bars_since s n) i rest w r = (refl, tt, r, fits-none _)

    pub sorted_all : (cs : Conditions) (i : ℕ) (rest : Forest) → WithinAll form cs → Sorted rest → Sorted (plant_all i cs rest)
    sorted_all none i rest w r = r
    sorted_all (more c cs) i rest w r = sorted_of c i _ w.0 (sorted_all cs (i + nodes_of c) rest w.1 r)

-- ---- fields that fit their bytes

node_fits : (i k s c n x : ℕ) → k < 256 → s < 256 → c < 65536 → n < 4294967296 → x < 18446744073709551616 → NodeFits (nd i k s c n x)
node_fits i k s c n x hk hs hc hn hx = record { kind = hk; selector = hs; children = hc; n = hn; constant = hx }

-- a node of no number but its kind and its n
plain_fits : (i k n : ℕ) → k < 256 → n < 4294967296 → NodeFits (nd i k 0 0 n 0)
plain_fits i k n hk hn = node_fits i k 0 0 n 0 hk (omega arith) (omega arith) hn (omega arith)

-- and one of a row of the table of kinds
row_fits : (i k n : ℕ) (row : Kind) → kind_of k ≡ row → 0 < row.sort → n < 4294967296 → NodeFits (nd i k 0 0 n 0)
row_fits i k n row h some hn = plain_fits i k n (omega (arith, known k row h some)) hn

as_many : (cs : Conditions) → many_of cs ≤ nodes_of_all cs
unfolding many_of nodes_of_all
as_many none = omega arith
as_many (more c cs) = omega (arith, as_many cs, some_nodes c)

group_fits : (i k : ℕ) (cs : Conditions) → k < 256 → nodes_of_all cs ≤ most_nodes → NodeFits (nd i k 0 (many_of cs) 0 0)
group_fits i k cs hk h = node_fits i k 0 (many_of cs) 0 0 hk (omega arith) (omega (arith, as_many cs)) (omega arith) (omega arith)

module _ (form : Form) (few : form.slots ≤ most_slots) where
  series_field : (s : Series) (i : ℕ) → WithinSeries form s → FieldsFit (plant_series i s)
  unfolding WithinSeries plant_series FieldsFit
  series_field (Price s) i w = (node_fits i 3 s 0 0 0 (omega arith) (omega arith) (omega arith) (omega arith) (omega arith), tt, tt)
  series_field (Slot s) i w = (plain_fits i 2 s (omega arith) (omega arith), tt, tt)

  fields : (a : Operand) (i : ℕ) (rest : Forest) → Within form a → FieldsFit rest → FieldsFit (plant i a rest)
  unfolding Within plant FieldsFit
  fields (const x) i rest w r = (node_fits i 1 0 0 0 x (omega arith) (omega arith) (omega arith) (omega arith) w.0, tt, r)
  fields (ref s) i rest w r = (plain_fits i 2 s (omega arith) (omega arith), tt, r)
  fields (price s) i rest w r = (node_fits i 3 s 0 0 0 (omega arith) (omega arith) (omega arith) (omega arith) (omega arith), tt, r)
  fields (prev a n) i rest w r = (plain_fits i 4 n (omega arith) w.0, fields a (i + 1) Forest.none w.1 tt, r)
  fields (sums kind a b) i rest w r =
      (row_fits i kind 0 _ w.0 (omega arith) (omega arith), fields a (i + 1) _ w.1 (fields b (i + 1 + nodes_in a) Forest.none w.2 tt), r)
  fields (extreme kind s n) i rest w r = (row_fits i kind n _ w.0 (omega arith) (omega (arith, w.3)), series_field s (i + 1) w.4, r)

  mutual
    unfolding WithinOf plant_of FieldsFit nodes_of

    pub fields_of : (c : Condition) (i : ℕ) (rest : Forest) → WithinOf form c → nodes_of c ≤ most_nodes → FieldsFit rest → FieldsFit (plant_of i c rest)
    fields_of (compare kind a b) i rest w h r =
        (row_fits i kind 0 _ w.0 (omega arith) (omega arith), fields a (i + 1) _ w.1 (fields b (i + 1 + nodes_in a) Forest.none w.2 tt), r)
    fields_of (cross kind a b) i rest w h r =
        (row_fits i kind 0 _ w.0 (omega arith) (omega arith), fields a (i + 1) _ w.1 (fields b (i + 1 + nodes_in a) Forest.none w.2 tt), r)
    fields_of (between x a b) i rest w h r = (
      plain_fits i 24 0 (omega arith) (omega arith),
      fields x (i + 1) _ w.0 (fields a (i + 1 + nodes_in x) _ w.1 (fields b (i + 1 + nodes_in x + nodes_in a) Forest.none w.2 tt)),
      r,
    )
    fields_of (trend kind a n) i rest w h r = (row_fits i kind n _ w.0 (omega arith) w.1, fields a (i + 1) Forest.none w.2 tt, r)
    fields_of (every cs) i rest w h r = (group_fits i 27 cs (omega arith) (omega arith), fields_all cs (i + 1) Forest.none w (omega arith) tt, r)
    fields_of (any cs) i rest w h r = (group_fits i 28 cs (omega arith) (omega arith), fields_all cs (i + 1) Forest.none w (omega arith) tt, r)
    fields_of (negated c) i rest w h r = (plain_fits i 29 0 (omega arith) (omega arith), fields_of c (i + 1) Forest.none w (omega arith) tt, r)
    fields_of (in_position true) i rest w h r = (node_fits i 30 1 0 0 0 (omega arith) (omega arith) (omega arith) (omega arith) (omega arith), tt, r)
    fields_of (in_position false) i rest w h r = (plain_fits i 30 0 (omega arith) (omega arith), tt, r)
    fields_of (bars_since s n) i rest w h r = (node_fits i 31 s 0 n 0 (omega arith) (omega (arith, w.0)) (omega arith) w.1 (omega arith), tt, r)

    fields_all : (cs : Conditions) (i : ℕ) (rest : Forest) → WithinAll form cs → nodes_of_all cs ≤ most_nodes → FieldsFit rest → FieldsFit (plant_all i cs rest)
    fields_all none i rest w h r = r
    fields_all (more c cs) i rest w h r = fields_of c i _ w.0 (omega arith) (fields_all cs (i + nodes_of c) rest w.1 (omega arith) r)
