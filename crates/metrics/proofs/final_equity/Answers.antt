-- The last point is the one before as many as there are.
use Rattle.words.specs.Prelude.{◌≡◌, refl, sym, ap, ◌∙◌, List, [], ◌∷◌, ℕ, suc, ◌-◌, arith, length, get_or, Float}
use Rattle.metrics.specs.{Records.equity_of, Figures.final_equity}
use Rattle.floats.specs.Floats as Floats
use Rattle.metrics.proofs.final_equity.Goals as goal

final_none : (d : Float) (es : List Float) → length es ≡ 0 → final_equity d es ≡ d
unfolding final_equity
final_none d [] h = refl
final_none d (e ∷ es) h = absurd (some (length es) h)
  where
    some : (x : ℕ) → suc x ≡ 0 → ⊥
    some x l = omega arith

final_at : (d e : Float) (es : List Float) → final_equity d (e ∷ es) ≡ get_or (e ∷ es) (length es) Floats.zero
unfolding final_equity
final_at d e [] = refl
final_at d e (x ∷ es) = final_at e x es

final_last : (d : Float) (es : List Float) (n : ℕ) → n ≡ length es → (n ≡ 0 → ⊥) → final_equity d es ≡ get_or es (n - 1) Floats.zero
final_last d [] n l h = absurd (h l)
final_last d (e ∷ es) n l h = final_at d e es ∙ ap (λ (k : ℕ). get_or (e ∷ es) k Floats.zero) (less n (length es) l)
  where
    less : (x y : ℕ) → x ≡ suc y → y ≡ x - 1
    less x y g = omega arith

pub returns-then-n-eq0 : goal.returns-then-n-eq0
returns-then-n-eq0 c =
    sym (final_none _ (equity_of c.args.equity.now) (sym c.point_count-n.ensures ∙ c.if-n-eq0.true))

pub returns : goal.returns
returns c =
    c.equity_at.ensures ∙ sym (final_last _ (equity_of c.args.equity.now) _ c.point_count-n.ensures c.if-n-eq0.false)
