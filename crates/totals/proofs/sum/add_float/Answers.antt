-- `totals::sum::add_float`: a float's digits, moved to their place, lie in two words. Assumes nothing.
use Rattle.words.specs.Prelude.{◌≡◌, ap, ◌∙◌, List, ℕ, suc, ◌+◌, ◌-◌, ◌/◌, ◌%◌, ◌^◌, ◌<◌, div-le_self, arith, rules}
use Rattle.words.specs.Prelude.{leb, length}
use Rattle.totals.specs.{Number.place, Number.number_of, Number.words_of, Number.shifted}
use Rattle.totals.proofs.{Digits.at_place, Digits.units_small, Digits.units_large}
use Rattle.totals.proofs.sum.add_float.Goals as goal

small : (m s : ℕ) → m < 2 ^ 53 → m / 2 / 2 ^ s < 2 ^ 63
small m s h = let less = div-le_self (m / 2) (2 ^ s) in omega arith

-- the words, once x is moved
abbrev moved : List ℕ → ℕ → ℕ → List ℕ
moved ws w x = words_of (length ws) (shifted (leb (2 ^ 63) w) (place (length ws)) (number_of ws) x)

pub shift-requires-else-e-eq0 : goal.shift-requires-else-e-eq0
shift-requires-else-e-eq0 c = small (2 ^ 52 + c.args.w % 2 ^ 63 % 2 ^ 52) _ (omega arith)

pub returns-then-e-eq0 : goal.returns-then-e-eq0
returns-then-e-eq0 c =
    let start = c.args in
    let b = start.w % 2 ^ 63 in
    let none : b / 2 ^ 52 ≡ 0 = search rules in
    c.shift.ensures ∙ ap (moved start.sum.now start.w) (units_small b none)

pub returns-else-e-eq0 : goal.returns-else-e-eq0
returns-else-e-eq0 c =
    let start = c.args in
    let b = start.w % 2 ^ 63 in
    let some : b / 2 ^ 52 ≡ suc (b / 2 ^ 52 - 1) = omega arith in
    c.shift-else-e-eq0.ensures
    ∙ ap (moved start.sum.now start.w) (at_place (2 ^ 52 + b % 2 ^ 52) (b / 2 ^ 52 - 1) ∙ units_large b (b / 2 ^ 52 - 1) some)
