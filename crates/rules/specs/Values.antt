-- "What a rule means", the leaves: what a row, an operation, a comparison and the position give. Definitions only.
use Rattle.std.specs.Prelude.{ℕ, ◌+◌, ◌-◌, ◌/◌, ◌%◌, ◌^◌, Bool, false, cond, ◌&&◌, List, get_or, ltb, leb, eqb, Float, None, Option, Some}
use Rattle.words.specs.Prelude.{nan}
use Rattle.floats.specs.{Floats.◌⊕◌, Floats.◌⊖◌, Floats.◌⊗◌, Floats.◌⊘◌, Floats.◌≺◌, Floats.◌≼◌, Floats.float_of, Floats.abs, Floats.eps, Floats.three}
use Rattle.floats.specs.{Floats.four}
use Rattle.rules.specs.{declared.position.PositionState.PositionState}
use Rattle.table.specs.Named as Named

-- A row is the function from a place to the word there. This is the one that begins at word `base` of a list.
abbrev pub words_from : List ℕ → ℕ → ℕ → ℕ
words_from ws base j = get_or ws (base + j) 0

-- "Price (selector 0..6: open, high, low, close, volume, hlc3, ohlc4)". Word 0 of a row is its time.
-- "hlc3 is ((high+low)+close)/3 and ohlc4 (((open+high)+low)+close)/4 (added)."
unfoldable pub price_of : (ℕ → ℕ) → ℕ → Float
price_of row s =
    cond (ltb s 5) (float_of (row (s + 1)))
    (cond (eqb s 5) ((float_of (row 2) ⊕ float_of (row 3) ⊕ float_of (row 4)) ⊘ three)
    ((float_of (row 1) ⊕ float_of (row 2) ⊕ float_of (row 3) ⊕ float_of (row 4)) ⊘ four))

-- "Ref is missing where its slot is absent": where bit k of the mask, word 6, is 0.
unfoldable pub slot_of : (ℕ → ℕ) → ℕ → Option Float
slot_of row k = cond (eqb (row 6 / 2 ^ k % 2) 1) (Some (float_of (row (7 + k)))) None

-- "Div with |divisor| < EPS is NaN."
unfoldable pub divide : Float → Float → Float
divide x y = cond (abs y ≺ eps) nan (x ⊘ y)

-- "5..8 Add, Sub, Mul, Div"
unfoldable pub combine : ℕ → Float → Float → Float
combine kind x y = cond (eqb kind Named.add) (x ⊕ y) (cond (eqb kind Named.sub) (x ⊖ y) (cond (eqb kind Named.mul) (x ⊗ y) (divide x y)))

-- "Arithmetic is missing if either side is."
unfoldable pub combined : ℕ → Option Float → Option Float → Option Float
combined kind None b = None
combined kind (Some x) None = None
combined kind (Some x) (Some y) = Some (combine kind x y)

-- "a later one takes its place only if strictly greater (for Lowest, strictly less)" (request 8)
unfoldable pub better : ℕ → Float → Float → Bool
better kind best later = cond (eqb kind Named.highest) (best ≺ later) (later ≺ best)

unfoldable pub took : ℕ → Float → Float → Float
took kind best later = cond (better kind best later) later best

-- "missing if any is missing"
unfoldable pub pick : ℕ → Option Float → Option Float → Option Float
pick kind None later = None
pick kind (Some best) None = None
pick kind (Some best) (Some later) = Some (took kind best later)

-- "16..21 Gt, Lt, Ge, Le, Eq, Ne". "Eq is |x − y| < EPS, Ne is |x − y| ≥ EPS."
unfoldable pub tested : ℕ → Float → Float → Bool
tested kind x y =
    cond (eqb kind Named.gt) (y ≺ x)
    (cond (eqb kind Named.lt) (x ≺ y)
    (cond (eqb kind Named.ge) (y ≼ x)
    (cond (eqb kind Named.le) (x ≼ y)
    (cond (eqb kind Named.eq) (abs (x ⊖ y) ≺ eps) (eps ≼ abs (x ⊖ y))))))

-- "A comparison with a missing side is no."
unfoldable pub compared : ℕ → Option Float → Option Float → Bool
compared kind None b = false
compared kind (Some x) None = false
compared kind (Some x) (Some y) = tested kind x y

-- "A cross is no .. if any of its four values is missing; above is then ≤ before and > now, below is ≥ and <."
unfoldable pub crossed : ℕ → Option Float → Option Float → Option Float → Option Float → Bool
crossed kind a b aBefore bBefore =
    cond (eqb kind Named.cross_above) (compared Named.le aBefore bBefore && compared Named.gt a b)
    (compared Named.ge aBefore bBefore && compared Named.lt a b)

-- "Between is closed at both ends."
unfoldable pub within : Option Float → Option Float → Option Float → Bool
within x low high = compared Named.le low x && compared Named.le x high

-- "Rising compares now > then, n bars back"; Falling, the other kind, now < then.
unfoldable pub trended : ℕ → Option Float → Option Float → Bool
trended kind now then = cond (eqb kind Named.rising) (compared Named.gt now then) (compared Named.lt now then)

-- "BarsSinceEntry (selector 0..4: Gt, Lt, Ge, Le, Eq; n = k)": n bars since the entry.
unfoldable pub bars_tested : ℕ → ℕ → ℕ → Bool
bars_tested selector k n =
    cond (eqb selector 0) (ltb k n)
    (cond (eqb selector 1) (ltb n k)
    (cond (eqb selector 2) (leb k n)
    (cond (eqb selector 3) (leb n k) (eqb n k))))

-- "Flat is where |qty| > EPS is false."
unfoldable pub held : Float → Bool
held qty = eps ≺ abs qty

-- "Bars since entry is this bar's number less the entry bar's; a rule takes this bar's number from the position state
-- (bars seen, this one counted, less 1)." An entry bar not below the bars seen (13) leaves 0.
abbrev pub counted_from : ℕ → ℕ → ℕ → Option ℕ → Bool
counted_from selector k seen None = false
counted_from selector k seen (Some bar) = bars_tested selector k (seen - 1 - bar)

-- "BarsSinceEntry is no when flat or where the state holds no entry bar."
unfoldable pub counted_since : ℕ → ℕ → PositionState → Bool
counted_since selector k s = held s.qty && counted_from selector k s.bars_seen s.entered
