-- The leaves that a test looks at, in the request's order, and what is said of them. Definitions only.
use Rattle.std.specs.Prelude.{ℕ, zero, suc, ◌+◌, ◌-◌, ◌≡◌, List, [], ◌∷◌, ◌++◌, Float, None, Option, Some}
use Rattle.rows.specs.{History.History}
use Rattle.table.specs.{Trees.Operand, Trees.const, Trees.ref, Trees.price, Trees.prev, Trees.arith, Trees.extreme, Trees.Condition, Trees.compare, Trees.cross}
use Rattle.table.specs.{Trees.between, Trees.trend, Trees.every, Trees.any, Trees.negated, Trees.in_position, Trees.bars_since, Series.as_operand, Writing.nodes_in}
use Rattle.rules.specs.{Meaning.bars_back}
use Rattle.rules.specs.{Meaning.value}

-- a leaf, its node, and how many bars back it is looked at
pub record Look : Type 0 where
  pub leaf : Operand
  pub node : ℕ
  pub back : ℕ

abbrev pub look : Operand → ℕ → ℕ → Look
look leaf node back = record { leaf = leaf; node = node; back = back }

-- "names its child at the newest missing bar" (request 8): a leaf so many bars back, then the m bars before that
unfoldable pub looks_back : Operand → ℕ → ℕ → ℕ → List Look
looks_back a i back zero = look a i back ∷ []
looks_back a i back (suc m) = look a i back ∷ looks_back a i (back + 1) m

-- "in table order": those of an operand whose node is number i, looked at so many bars back
unfoldable pub looks_in : Operand → ℕ → ℕ → List Look
looks_in (const bits) i back = look (const bits) i back ∷ []
looks_in (ref slot) i back = look (ref slot) i back ∷ []
looks_in (price selector) i back = look (price selector) i back ∷ []
looks_in (prev a n) i back = looks_in a (i + 1) (back + n)
looks_in (arith kind a b) i back = looks_in a (i + 1) back ++ looks_in b (i + 1 + nodes_in a) back
looks_in (extreme kind s n) i back = looks_back (as_operand s) (i + 1) back (n - 1)

-- "(this bar's before an earlier bar's)": those of a test whose node is number i
unfoldable pub looks_of : Condition → ℕ → List Look
looks_of (compare kind a b) i = looks_in a (i + 1) 0 ++ looks_in b (i + 1 + nodes_in a) 0
looks_of (cross kind a b) i =
    (looks_in a (i + 1) 0 ++ looks_in b (i + 1 + nodes_in a) 0) ++ (looks_in a (i + 1) 1 ++ looks_in b (i + 1 + nodes_in a) 1)
looks_of (between x low high) i =
    (looks_in x (i + 1) 0 ++ looks_in low (i + 1 + nodes_in x) 0) ++ looks_in high (i + 1 + nodes_in x + nodes_in low) 0
looks_of (trend kind a n) i = looks_in a (i + 1) 0 ++ looks_in a (i + 1) n
looks_of (every cs) i = []
looks_of (any cs) i = []
looks_of (negated c) i = []
looks_of (in_position wanted) i = []
looks_of (bars_since selector k) i = []

-- what a leaf is so many bars before `bar`: missing where there is no such bar
unfoldable pub seen : History → ℕ → Look → Option Float
seen h bar l = bars_back (value h l.leaf) l.back bar

-- it has a value there
pub data IsThere : Option Float → Type 0 where
  number : (x : Float) → IsThere (Some x)

module _ (h : History) (bar : ℕ) where
  -- The first missing leaf of these is this node, so many bars back: it is missing there, and each before it is not.
  pub data FirstMissing : List Look → ℕ → ℕ → Type 0 where
    this : (l : Look) (ls : List Look) → seen h bar l ≡ None → FirstMissing (l ∷ ls) l.node l.back
    later : (l : Look) (ls : List Look) (node back : ℕ) → IsThere (seen h bar l) → FirstMissing ls node back → FirstMissing (l ∷ ls) node back
