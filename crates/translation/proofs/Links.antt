-- The conditions of All or Any are written one after the other, with a link in place of each jump: the place of the link before. From the
-- last to the first a jump takes each link's place.
use Rattle.words.specs.Prelude.{ℕ, ◌+◌, ◌-◌, ◌*◌, ◌/◌, ◌<◌, ◌≤◌, ◌≡◌, refl, ap, ◌∙◌, Bool, List, [], ◌∷◌, ◌++◌, append_assoc, arith, length, take, drop}
use Rattle.words.specs.Prelude.{length-take, lt-ltb}
use Rattle.table.specs.{Bytes.u64, Trees.Condition, Trees.reach_of, Trees.reach_of_all}
use Rattle.rules.specs.{Shapes.end_in, Flat.grow_conditions}
use Rattle.steps.specs.{declared.step.Op.Op, declared.step.Step.Step, declared.step.Op.TheVariants.Const, declared.step.Op.TheVariants.JumpIf, Bytes.write_at}
use Rattle.steps.specs.{Bytes.step_of, Bytes.step_bytes, Bytes.bytes_of, Bytes.step_at, Bytes.read_step, Bytes.Fits, Bytes.Wrote, Translation.code_of}
use Rattle.steps.specs.{Translation.code_each, Laws.Encoding.Sayable, Laws.Encoding.step_there, Laws.Encoding.steps_long}
use Rattle.translation.proofs.{Writes.length_write, Writes.length_wrote, Writes.bytes_there, Writes.fits_first, Writes.fits_rest, Writes.wrote_none}
use Rattle.translation.proofs.{Writes.wrote_one, Writes.wrote_then, Writes.wrote_over, Conditions.no_more, Conditions.one_more, Conditions.code_no_more}
use Rattle.translation.proofs.{Conditions.code-more, Conditions.more-reach}

-- a link reads as what was written
reads_link : (l : List ℕ) (at last : ℕ) (ys : List Op) (l' : List ℕ) (p : ℕ) → last < 18446744073709551616 → Fits l at (Const last 0 ∷ ys)
    → Wrote l at (Const last 0 ∷ ys) l' p → u64 l' (16 * at + 8) ≡ last
unfolding bytes_of Sayable step_at read_step step_of
reads_link l at last ys l' p small f w =
    let sb : List ℕ = step_bytes (step_of (Const last 0)) in
    let long : length (bytes_of (Const last 0 ∷ ys)) ≡ 16 * length (Const last 0 ∷ ys) = steps_long (Const last 0 ∷ ys) in
    let before : List ℕ = take (16 * at) l in
    let after : List ℕ = drop (16 * at + length (bytes_of (Const last 0 ∷ ys))) l in
    let there : l' ≡ before ++ ((sb ++ bytes_of ys) ++ after) = w.bytes ∙ bytes_there l (16 * at) (bytes_of (Const last 0 ∷ ys)) (omega (arith, f.bytes)) in
    let is : l' ≡ before ++ (sb ++ (bytes_of ys ++ after)) = there ∙ ap (λ (k : List ℕ). before ++ k) (append_assoc sb (bytes_of ys) after) in
    let full : length before ≡ 16 * at = simp length-take (omega (arith, f.bytes)) in
    let said : step_at l' at ≡ step_of (Const last 0) = rw is (step_there before at full (Const last 0) (bytes_of ys ++ after) (omega arith, small)) in
    let same : length l' ≡ length l = length_wrote w in
    let within : at < length l' / 16 = omega (arith, f.bytes) in
    ap (λ (x : Step). x.bits) (rw (lt-ltb at (length l' / 16) within) at said)

module _ (w : Bool) (f : ℕ → Condition) (ends : List ℕ) (n j : ℕ) (l₀ : List ℕ) (at₀ : ℕ) where
  -- the steps of the m conditions from node i on
  abbrev rest : ℕ → ℕ → List Op
  rest m i = code_each w (grow_conditions f ends m i)

  -- All but m conditions are written into l; the last link stands at `last`, the next condition at node i goes to place p.
  pub data Linked : ℕ → ℕ → ℕ → ℕ → List ℕ → Type 0 where
    start : {last : ℕ} → Linked n last j at₀ l₀
    child : {m last i p q : ℕ} {l l' l'' : List ℕ} → 0 < m → last < 18446744073709551616 → Linked m last i p l → Fits l p (rest m i)
        → Wrote l p (code_of (f i)) l' q → l'' ≡ write_at l' (16 * q) (step_bytes (step_of (Const last 0))) → Linked (m - 1) q (end_in ends i) (q + 1) l''

  -- what the first loop keeps
  pub record Writing (m last i p : ℕ) (l : List ℕ) : Type 0 where
    pub linked : Linked m last i p l
    pub fits : Fits l p (rest m i)
    pub near : reach_of_all (grow_conditions f ends m i) ≤ 4096
    pub small : last < 18446744073709551616
    pub long : length l < 18446744073709551616

  -- what the second keeps: after the last link stand the steps of all conditions behind it, up to place q
  pub record Closing (m last q : ℕ) (l : List ℕ) : Type 0 where
    pub i : ℕ
    pub p : ℕ
    pub base : List ℕ
    pub linked : Linked m last i p base
    pub wrote : Wrote base p (rest m i) l q
    pub long : length l < 18446744073709551616

  -- before the first
  pub begin : Fits l₀ at₀ (rest n j) → reach_of_all (grow_conditions f ends n j) ≤ 4096 → length l₀ < 18446744073709551616
      → Writing n at₀ j at₀ l₀
  begin fits near long = record { linked = start; fits = fits; near = near; small = omega (arith, fits.bytes); long = long }

  -- no more are left than there are
  few : {m last i p : ℕ} {l : List ℕ} → Linked m last i p l → m ≤ n
  few start = omega arith
  few (child _ _ linked _ _ _) = omega (arith, few linked)

  -- the steps of what is left, and how they go on
  left : {m : ℕ} (i : ℕ) → 0 < m → rest m i ≡ code_of (f i) ++ JumpIf w (length (rest (m - 1) (end_in ends i))) ∷ rest (m - 1) (end_in ends i)
  left {m} i more = rw (one_more f ends m i (λ e. omega arith), code-more)

  -- the next condition has room, and looks not too far back
  pub next : {m last i p : ℕ} {l : List ℕ} → 0 < m → Writing m last i p l → (reach_of (f i) ≤ 4096) × Fits l p (code_of (f i))
  next {m} {i = i} more c =
      ((more-reach _ _ (rw (one_more f ends m i (λ e. omega arith)) at c.near)).0, fits_first _ _ (rw (left i more) at c.fits))

  -- so has its jump, and with it the rest
  module _ {m last i p q : ℕ} {l l' : List ℕ} (more : 0 < m) (c : Writing m last i p l) (v : Wrote l p (code_of (f i)) l' q) where
    behind : Fits l' q (JumpIf w (length (rest (m - 1) (end_in ends i))) ∷ rest (m - 1) (end_in ends i))
    behind = fits_rest _ _ v (rw (left i more) at c.fits)

    -- there is a place for the link
    pub link_fits : 16 * (q + 1) ≤ length l'
    link_fits = omega (arith, behind.bytes)

    -- and once it is written, one condition less is left
    pub push : {l'' : List ℕ} → l'' ≡ write_at l' (16 * q) (step_bytes (step_of (Const last 0)))
        → Writing (m - 1) q (end_in ends i) (q + 1) l''
    push {l''} put =
        let same : length l'' ≡ length l' = ap length put ∙ length_write l' (16 * q) _ in
        record {
          linked = child more c.small c.linked c.fits v put;
          fits = record { bytes = omega (arith, behind.bytes) };
          near = (more-reach _ _ (rw (one_more f ends m i (λ e. omega arith)) at c.near)).1;
          small = omega (arith, link_fits, length_wrote v, c.long);
          long = omega (arith, length_wrote v, c.long);
        }

  -- where none is left, nothing stands behind the last link
  pub turn : {m last i p : ℕ} {l : List ℕ} → m ≤ 0 → Writing m last i p l → Closing m last p l
  turn {m} {i = i} {p} {l} none c =
      let no : m ≡ 0 = omega arith in
      record { i = i; p = p; base = l; linked = c.linked; wrote = rw (no_more f ends m i no, code_no_more) (wrote_none l p); long = c.long }

  -- the last link, whose place a jump over what stands behind it can take
  pub record Popped (m last q : ℕ) (l : List ℕ) : Type 0 where
    pub above : last < q
    pub fits : 16 * (last + 1) ≤ length l
    pub closes : (l' : List ℕ) → l' ≡ write_at l (16 * last) (step_bytes (step_of (JumpIf w (q - last - 1)))) → Closing (m + 1) (u64 l (16 * last + 8)) q l'

  pub pop : {m last q : ℕ} {l : List ℕ} → m < n → Closing m last q l → Popped m last q l
  pop {q = q} {l} less c = go c.linked c.wrote less
    where
      go : {k at i p : ℕ} {base : List ℕ} → Linked k at i p base → Wrote base p (rest k i) l q → k < n → Popped k at q l
      go start v less = absurd (omega arith)
      go (child {m = k} {last = before} {i} {p} {q = at} {l = l₁} {l' = l₂} more small linked fits wrote put) v less =
          let ys : List Op = rest (k - 1) (end_in ends i) in
          let room : Fits l₂ at (JumpIf w (length ys) ∷ ys) = fits_rest _ _ wrote (rw (left i more) at fits) in
          let whole : Wrote l₂ at (Const before 0 ∷ ys) l q = wrote_then (Const before 0 ∷ []) ys (wrote_one _ _ (Const before 0) _ _ refl put) v in
          let same : length l ≡ length l₂ = length_wrote whole in
          let skip : q - at - 1 ≡ length ys = omega (arith, v.place) in
          let back : k - 1 + 1 ≡ k = omega arith in
          record {
            above = omega (arith, v.place);
            fits = omega (arith, room.bytes);
            closes = λ l' e. record {
              i = i;
              p = p;
              base = l₁;
              linked = rw (back, reads_link l₂ at before ys l q small (record { bytes = omega (arith, room.bytes) }) whole) linked;
              wrote = rw (back, left i more) (wrote_then _ _ wrote (wrote_over (Const before 0) _ ys whole (rw skip at e)));
              long = omega (arith, ap length e ∙ length_write l (16 * at) _, c.long);
            };
          }

  -- where no link is left, all stands as it should
  pub finish : {m last q : ℕ} {l : List ℕ} → n ≤ m → Closing m last q l → Wrote l₀ at₀ (rest n j) l q
  finish none c = go c.linked c.wrote none
    where
      go : {k at i p q : ℕ} {base l : List ℕ} → Linked k at i p base → Wrote base p (rest k i) l q → n ≤ k → Wrote l₀ at₀ (rest n j) l q
      go start v _ = v
      go (child more _ linked _ _ _) v end = absurd (omega (arith, few linked))
