-- The digits, and then the byte.
use Rattle.words.specs.Prelude.{◌-◌, ◌^◌, false}
use Rattle.std.specs.Fmt.{digits, digits_output, format_spec, padded_integral, radix_prefix, shown_prefix}
use Rattle.std.specs.Io.KnownBytes.{Appends}
use Rattle.text.specs.Spelling.{spelt}
use Rattle.text.proofs.{Writing.shown_so, Writing.both_if_ok}
use Rattle.text.proofs.write_word.Goals as goal

pub returns : goal.returns
unfolding spelt
returns g c =
    let old = g.W.Write.contents c.args.output.now in
    let mid = g.W.Write.contents c.write.new.self in
    let digits_are : Appends old mid (spelt c.args.word) =
    shown_so c.laid_out.result (format_spec 32 0 4 16 (2 ^ 64 - 1)) (λ s. padded_integral s false (shown_prefix s (radix_prefix c.in_radix.result.base)))
    (Appends old mid) (digits_output c.in_radix.result) (digits 16 false c.args.word) c.laid_out.ensures c.in_radix.ensures c.in_ok-write.ensures.bytes in
    both_if_ok c.write_all.result old mid (g.W.Write.contents c.write_all.new.self) (spelt c.args.word) _ digits_are c.write_all.ensures.bytes
