use Rattle.words.specs.Prelude.{◌≡◌, sym, ap, ◌∙◌, List, ℕ, suc, ◌+◌, ◌-◌, ◌*◌, ◌<◌, zero-mul, add-zero, lt_irrefl, arith, take, get_or}
use Rattle.totals.specs.{Number.number_of, Number.place}
use Rattle.totals.proofs.{Digits.number_take}
use Rattle.totals.proofs.nearest.top.Goals as goal

-- a word that is 0 adds nothing
less : (ws : List ℕ) (t : ℕ) → 0 < t → get_or ws (t - 1) 0 ≡ 0 → number_of (take t ws) ≡ number_of (take (t - 1) ws)
less ws t p e =
    ap (λ (z : ℕ). number_of (take z ws)) (up t p) ∙ number_take ws (t - 1)
    ∙ ap (λ (z : ℕ). number_of (take (t - 1) ws) + z) (ap (λ (z : ℕ). z * place (t - 1)) e ∙ zero-mul (place (t - 1))) ∙ add-zero (number_of (take (t - 1) ws))
  where
    up : (x : ℕ) → 0 < x → x ≡ suc (x - 1)
    up x l = omega arith

positive : (x y : ℕ) → x ≡ y → (x ≡ 0 → ⊥) → 0 < y
positive x y e h = omega arith

pub loop-i-init : goal.loop-i-init
loop-i-init c =
    let all : c.args.n ≡ c.args.n - 0 = omega arith in
    ap (λ (z : ℕ). number_of (take z c.args.words.now)) all

pub returns-then-word-ne0 : goal.returns-then-word-ne0
returns-then-word-ne0 c =
    let l = c.loop-i in
    let w = c.word in
    record { most = omega arith; same = l.invariant; some = λ (p : 0 < c.args.n - l.i). positive _ _ w.ensures c.if-word-ne0.true }

pub loop-i-preserved : goal.loop-i-preserved
loop-i-preserved c =
    let l = c.loop-i in
    let start = c.args in
    let next : start.n - l.i - 1 ≡ start.n - (l.i + 1) = omega arith in
    l.invariant ∙ less start.words.now (start.n - l.i) (omega arith) (sym c.word.ensures ∙ c.if-word-ne0.false)
    ∙ ap (λ (z : ℕ). number_of (take z start.words.now)) next

pub returns : goal.returns
returns c =
    let l = c.loop-i in
    let none : c.args.n - l.i ≡ 0 = omega arith in
    record {
      most = omega arith;
      same = l.invariant ∙ ap (λ (z : ℕ). number_of (take z c.args.words.now)) none;
      some = λ (p : 0 < 0). absurd (lt_irrefl 0 p);
    }
