-- The bytes of the reader that is cut off at the limit are the first ones of the reader.
use Rattle.words.specs.Prelude.{◌≡◌, ◌++◌, subst, List, [], ℕ, take}
use Rattle.std.specs.Prelude.{IfSome, None, Some}
use Rattle.std.specs.Option.{option_map}
use Rattle.std.specs.declared.option.Option.{Option}
use Rattle.std.specs.Io.Take.{take_remaining, take_inner, take_limit}
use Rattle.std.specs.declared.io.traits.Take.{Take}
use Rattle.answers.proofs.read_table.Goals as goal

-- of what a reader has left, the first n bytes
first : (n : ℕ) (left : Option (List ℕ)) (items : List ℕ) → IfSome (option_map (take n) left) (λ xs. items ≡ [] ++ xs)
    → IfSome left (λ bytes. items ≡ take n bytes)
first n None items h = tt
first n (Some bytes) items h = h

cut : {R : Type 0} (remaining : R → Option (List ℕ)) (t : Take R) (input : R) (items old : List ℕ) → take_inner t ≡ input → take_limit t ≡ 4113
    → old ≡ [] → IfSome (take_remaining remaining t) (λ xs. items ≡ old ++ xs) → IfSome (remaining input) (λ bytes. items ≡ take 4113 bytes)
cut remaining t input items old p q r h =
    let a : IfSome (option_map (take (take_limit t)) (remaining (take_inner t))) (λ xs. items ≡ [] ++ xs) =
    subst (λ (o : List ℕ). IfSome (option_map (take (take_limit t)) (remaining (take_inner t))) (λ xs. items ≡ o ++ xs)) r h in
    let b = subst (λ (n : ℕ). IfSome (option_map (take n) (remaining (take_inner t))) (λ xs. items ≡ [] ++ xs)) q a in
    first 4113 (remaining input) items (subst (λ (i : _). IfSome (option_map (take 4113) (remaining i)) (λ xs. items ≡ [] ++ xs)) p b)

pub returns : goal.returns
returns g c =
    cut g.R.Read.remaining c.take.result c.args.input c.read_to_end.new.buf.items c.in_ok-table.table.items c.take.ensures.inner
    c.take.ensures.limit c.in_ok-table.ensures.items c.in_ok-read_to_end.ensures.bytes
