-- What is written, one piece after another. Assumes nothing.
use Rattle.words.specs.Prelude.{◌≡◌, sym, ap, ◌∙◌, subst, List, [], ◌∷◌, ◌++◌, append_assoc, append-nil, ℕ, zero, suc, ◌+◌, ◌≤◌, ◌<◌, arith, length, drop, get_or, drop_of_length-le}
use Rattle.std.specs.Prelude.{OnOk, IfSome, None, Some, Ok, Err}
use Rattle.std.specs.Option.{option_map}
use Rattle.std.specs.declared.option.Option.{Option}
use Rattle.std.specs.declared.result.Result.{Result}
use Rattle.std.specs.Io.KnownBytes.{Appends}
use Rattle.text.specs.{Spelling.spelt, Spelling.spelt_words}

-- what a format writes of a text that is known, where its layout is
pub shown_so : {F : Type 0} (s layout : F) (show : F → List ℕ → List ℕ) (P : List ℕ → Type 0) (shown : Option (List ℕ)) (text : List ℕ) → s ≡ layout
    → shown ≡ Some text → IfSome (option_map (show s) shown) P → P (show layout text)
shown_so s layout show P shown text a b h =
    let laid = subst (λ (s : _). IfSome (option_map (show s) shown) P) a h in
    subst (λ (o : Option (List ℕ)). IfSome (option_map (show layout) o) P) b laid

-- a piece, and then another
pub both : (a b c : Option (List ℕ)) (xs ys : List ℕ) → Appends a b xs → Appends b c ys → Appends a c (xs ++ ys)
both None b c xs ys p q = tt
both (Some a) None c xs ys p q = absurd p
both (Some a) (Some b) None xs ys p q = absurd q
both (Some a) (Some b) (Some c) xs ys p q = q ∙ ap (λ (s : List ℕ). s ++ ys) p ∙ append_assoc a xs ys

pub both_if_ok : {A E : Type 0} (written : Result A E) (a b c : Option (List ℕ)) (xs ys : List ℕ) → Appends a b xs → OnOk written (Appends b c ys)
    → OnOk written (Appends a c (xs ++ ys))
both_if_ok (Err e) a b c xs ys p q = tt
both_if_ok (Ok x) a b c xs ys p q = both a b c xs ys p q

-- the line from word i on: that word, the byte after it, and the rest
pub step : (words : List ℕ) (i end after : ℕ) → i < length words → (i + 1 < length words → after ≡ 32) → (length words ≤ i + 1 → after ≡ end)
    → spelt_words (drop i words) end ≡ (spelt (get_or words i 0) ++ (after ∷ [])) ++ spelt_words (drop (i + 1) words) end
unfolding spelt_words
step [] i end after l p q = absurd (omega arith)
step (w ∷ []) zero end after l p q =
    sym (append-nil _ ∙ ap (λ (x : ℕ). spelt w ++ (x ∷ [])) (q (omega arith)))
step (w ∷ x ∷ ws) zero end after l p q =
    sym (append_assoc (spelt w) (after ∷ []) (spelt_words (x ∷ ws) end) ∙ ap (λ (y : ℕ). spelt w ++ (y ∷ spelt_words (x ∷ ws) end)) (p (omega arith)))
step (w ∷ ws) (suc i) end after l p q =
    let next : suc i + 1 ≡ suc (i + 1) = omega arith in
    rw next (step ws i end after (omega arith) (λ h. p (omega arith)) (λ h. q (omega arith)))

-- the line, where a part of it is written: with a word more
pub more : (line done from left piece : List ℕ) → line ≡ done ++ from → from ≡ piece ++ left → line ≡ (done ++ piece) ++ left
more line done from left piece p q = p ∙ ap (λ (s : List ℕ). done ++ s) q ∙ sym (append_assoc done piece left)

-- and where nothing is left of it
pub whole : (old new : Option (List ℕ)) (words : List ℕ) (i end : ℕ) (done : List ℕ) → length words ≤ i → Appends old new done
    → spelt_words words end ≡ done ++ spelt_words (drop i words) end → Appends old new (spelt_words words end)
unfolding spelt_words
whole old new words i end done l p q =
    let none : drop i words ≡ [] = drop_of_length-le words l in
    subst (λ (s : List ℕ). Appends old new s) (sym (q ∙ ap (λ (s : List ℕ). done ++ spelt_words s end) none ∙ append-nil done)) p
