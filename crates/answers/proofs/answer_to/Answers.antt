-- The line that was put is written, and it is the answer's to what was read.
use Rattle.words.specs.Prelude.{◌≡◌, ap, ◌∙◌, subst, List, ℕ, take}
use Rattle.std.specs.Prelude.{IfSome, OnOk, None, Some, Ok, Err}
use Rattle.std.specs.declared.option.Option.{Option}
use Rattle.std.specs.declared.result.Result.{Result}
use Rattle.std.specs.Io.KnownBytes.{Appends}
use Rattle.table.specs.{Checked.checked}
use Rattle.answers.specs.{Lines.line_of}
use Rattle.answers.proofs.{Whole.whole}
use Rattle.answers.proofs.answer_to.Goals as goal

-- what holds of what was written holds of the answer to what there was to read
told : {A E : Type 0} (written : Result A E) (left : Option (List ℕ)) (P : List ℕ → Type 0) (n : ℕ) (table line : List ℕ) → OnOk written (P (take n line))
    → take n line ≡ line_of (checked table) → IfSome left (λ bytes. table ≡ take 4113 bytes)
    → OnOk written (IfSome left (λ bytes. P (line_of (checked (take 4113 bytes)))))
told (Err e) left P n table line w h k = tt
told (Ok x) None P n table line w h k = tt
told (Ok x) (Some bytes) P n table line w h k = subst P (h ∙ ap (λ (t : List ℕ). line_of (checked t)) k) w

pub returns : goal.returns
returns g c =
    let n = c.put_answer-n in
    let same : c.check-checked.result.answer ≡ checked c.in_ok-table.table.items = c.check-checked.ensures.0 ∙ ap checked c.deref.ensures.value in
    told c.write_all.result (g.R.Read.remaining c.args.input) (Appends (g.W.Write.contents c.args.output.now) (g.W.Write.contents c.write_all.new.self))
    n.result c.in_ok-table.table.items n.new.room c.write_all.ensures.bytes
    (whole c.check-checked.result.answer n.result n.new.room n.ensures.value n.ensures.room_after ∙ ap line_of same) c.in_ok-table.ensures
