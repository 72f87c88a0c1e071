-- The eight bytes over those of the area.
use Rattle.words.specs.Prelude.{ℕ, refl, sym, ap, ◌∙◌, zero-add, arith, get_or}
use Rattle.std.proofs.lemmas.Slice.{put_mid-paste}
use Rattle.steps.specs.{Bytes.eight}
use Rattle.dump.proofs.{Storing.laid_paste}
use Rattle.dump.proofs.bytes.put_word.Goals as goal

pub returns : goal.returns
returns c =
    let a = c.args in
    put_mid-paste _ _ _ _ (eight a.w) 8 (c.copy_from_slice.ensures.after ∙ c.bytes_of-bytes.ensures) (omega arith) refl
    ∙ sym (laid_paste a.area.now a.p (eight a.w) (eight a.w) 0 8 a.p (omega arith) (omega arith) (omega arith) (λ j l. ap (λ (k : ℕ). get_or (eight a.w) k 0) (zero-add j)))
