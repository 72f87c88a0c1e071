-- The worked example of document 01 as steps: entry CrossAbove(slot 0, slot 1), exit Lt(close, Prev(close, 2)).
use Rattle.std.specs.Prelude.{◌≡◌, refl, List, ◌∷◌, ◌++◌, ℕ, replicate}
use Rattle.table.specs.{Trees.ref, Trees.price, Trees.prev, Trees.compare, Trees.cross}
use Rattle.steps.specs.{Bytes.step_of, Bytes.step_bytes, Bytes.bytes_of, Translation.code, Translation.code_of}
use Rattle.table.specs.Named as Named

-- a step of this kind, with this selector and n; its skip and its constant are zero
step : ℕ → ℕ → ℕ → List ℕ
step kind selector n = kind ∷ selector ∷ 0 ∷ 0 ∷ n ∷ replicate 11 0

-- both slots now, both one row back, and the cross (22): five steps
entry : bytes_of (code_of (cross Named.cross_above (ref 0) (ref 1))) ≡ step 2 0 0 ++ step 2 1 0 ++ step 2 0 1 ++ step 2 1 1 ++ step 22 0 0
unfolding step code code_of step_of step_bytes bytes_of
entry = refl

-- the close now, the close two rows back, and the comparison (17): three steps, none for Prev
exit : bytes_of (code_of (compare Named.lt (price 3) (prev (price 3) 2))) ≡ step 3 3 0 ++ step 3 3 2 ++ step 17 0 0
unfolding step code code_of step_of step_bytes bytes_of
exit = refl
