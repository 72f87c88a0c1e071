use Rattle.words.specs.Prelude.{◌≡◌, sym, ap, ◌∙◌, Bool, List, ℕ, ◌+◌, ◌*◌, ◌^◌, ◌<◌, arith, add-one, rules}
use Rattle.words.specs.Prelude.{length, take, get_or, add-zero, take-length}
use Rattle.totals.specs.{Number.place, Number.number_of, Number.words_of, Number.shifted, Number.AreWords, Laws.Places.words_of_number}
use Rattle.totals.specs.{Laws.Places.number_below, Laws.Places.place_some, Laws.Places.length_words, Laws.Places.number_words}
use Rattle.totals.specs.{Laws.Residues.shifted_below, Laws.Residues.shifted_none, Laws.Residues.shifted_twice}
use Rattle.totals.proofs.{Digits.number_take}
use Rattle.totals.proofs.sum.shift_all.Goals as goal

-- one word more
on : (down : Bool) (ws₀ ws words : List ℕ) (i : ℕ) → i < length words
    → ws ≡ words_of (length ws₀) (shifted down (place (length ws₀)) (number_of ws₀) (number_of (take i words)))
    → words_of (length ws) (shifted down (place (length ws)) (number_of ws) ((get_or words i 0 + 2 ^ 64 * 0) * place i))
    ≡ words_of (length ws₀) (shifted down (place (length ws₀)) (number_of ws₀) (number_of (take (i + 1) words)))
on down ws₀ ws words i h e =
    let m = place (length ws₀) in
    let x = number_of (take i words) in
    let y = (get_or words i 0 + 2 ^ 64 * 0) * place i in
    let before = shifted down m (number_of ws₀) x in
    let size : length ws ≡ length ws₀ = ap length e ∙ length_words (length ws₀) before in
    let number : number_of ws ≡ before = ap number_of e ∙ number_words (length ws₀) before (shifted_below down (number_of ws₀) x (place_some (length ws₀))) in
    let word : y ≡ get_or words i 0 * place i = ap (λ (z : ℕ). z * place i) (add-zero (get_or words i 0)) in
    let all : x + y ≡ number_of (take (i + 1) words) =
    ap (λ (z : ℕ). x + z) word ∙ sym (number_take words i) ∙ ap (λ (n : ℕ). number_of (take n words)) (sym (add-one i)) in
    ap (λ (n : ℕ). words_of n (shifted down (place n) (number_of ws) y)) size ∙ ap (λ (n : ℕ). words_of (length ws₀) (shifted down m n y)) number
    ∙ ap (words_of (length ws₀)) (shifted_twice down (number_of ws₀) x y (place_some (length ws₀)))
    ∙ ap (λ (z : ℕ). words_of (length ws₀) (shifted down m (number_of ws₀) z)) all

pub loop-i-init : goal.loop-i-init
unfolding number_of
loop-i-init c =
    let ws = c.args.sum.now in
    let words : AreWords ws = λ i. omega (arith, c.type_inv.sum i) in
    (search rules, sym (ap (words_of (length ws)) (shifted_none _ (number_of ws) (number_below ws words)) ∙ words_of_number ws words))

pub loop-i-preserved : goal.loop-i-preserved
loop-i-preserved c =
    let start = c.args in
    let l = c.loop-i in
    (search rules, c.shift.ensures ∙ on start.down start.sum.now l.sum start.words.now l.i (search rules) l.invariant.1)

pub shape_of-sum : goal.shape_of-sum
shape_of-sum c = ap length c.loop-i.invariant.1 ∙ length_words _ _

pub returns : goal.returns
returns c =
    let start = c.args in
    let l = c.loop-i in
    let all : l.i ≡ length start.words.now = omega arith in
    l.invariant.1 ∙ ap (λ (xs : List ℕ). words_of (length start.sum.now) (shifted start.down (place (length start.sum.now)) (number_of
    start.sum.now) (number_of xs)))
    (ap (λ (n : ℕ). take n start.words.now) all ∙ take-length start.words.now)
