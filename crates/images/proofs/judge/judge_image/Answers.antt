-- Six lines: those passed hold, and the first that does not decides.
use Rattle.words.specs.Prelude.{refl, arith}
use Rattle.refusals.specs.Laws.Descent.{so, not_so, Below, top, past, stop, all_hold}
use Rattle.images.specs.{Refused.image_lines, Laws.Fine.shape_fine_lem, Laws.Fine.rows_few, Laws.Fine.rows_within}
use Rattle.images.proofs.{Testing.equal, Testing.other}
use Rattle.images.proofs.judge.judge_image.Goals as goal

pub returns-then-not-shape_fine : goal.returns-then-not-shape_fine
unfolding image_lines
returns-then-not-shape_fine c = stop top refl (not_so c.shape_fine.ensures c.if-not-shape_fine.true-raw)

pub returns-then-not-numbers_fine : goal.returns-then-not-numbers_fine
unfolding image_lines
returns-then-not-numbers_fine c =
    let past1 : (Below (image_lines c.args.image.now)) = past top refl (so c.shape_fine.ensures c.if-not-shape_fine.false-raw) in
    stop past1 refl (not_so c.numbers_fine.ensures c.if-not-numbers_fine.true-raw)

pub returns-then-not-unused_zero : goal.returns-then-not-unused_zero
unfolding image_lines
returns-then-not-unused_zero c =
    let past2 : (Below (image_lines c.args.image.now)) = let past1 : (Below (image_lines c.args.image.now)) = past top refl (so c.shape_fine.ensures c.if-not-shape_fine.false-raw) in
    past past1 refl (so c.numbers_fine.ensures c.if-not-numbers_fine.false-raw) in
    stop past2 refl (not_so c.unused_zero.ensures c.if-not-unused_zero.true-raw)

pub returns-then-byte-ne0 : goal.returns-then-byte-ne0
unfolding image_lines
returns-then-byte-ne0 c =
    let past3 : (Below (image_lines c.args.image.now)) = let past2 : (Below (image_lines c.args.image.now)) = let past1 : (Below (image_lines c.args.image.now)) = past top refl (so c.shape_fine.ensures c.if-not-shape_fine.false-raw) in
    past past1 refl (so c.numbers_fine.ensures c.if-not-numbers_fine.false-raw) in
    past past2 refl (so c.unused_zero.ensures c.if-not-unused_zero.false-raw) in
    stop past3 refl (other c.byte.ensures c.if-byte-ne0.true)

pub returns-then-not-zero_at : goal.returns-then-not-zero_at
unfolding image_lines
returns-then-not-zero_at c =
    let past4 : (Below (image_lines c.args.image.now)) = let past3 : (Below (image_lines c.args.image.now)) = let past2 : (Below (image_lines c.args.image.now)) = let past1 : (Below (image_lines c.args.image.now)) = past top refl (so c.shape_fine.ensures c.if-not-shape_fine.false-raw) in
    past past1 refl (so c.numbers_fine.ensures c.if-not-numbers_fine.false-raw) in
    past past2 refl (so c.unused_zero.ensures c.if-not-unused_zero.false-raw) in
    past past3 refl (equal c.byte.ensures c.if-byte-ne0.false) in
    stop past4 refl (not_so c.zero_at.ensures c.if-not-zero_at.true-raw)

pub rows_fine-requires : goal.rows_fine-requires
rows_fine-requires c =
    let x = c.args.image.now in
    let fine = shape_fine_lem x (so c.shape_fine.ensures c.if-not-shape_fine.false-raw) in
    let few = rows_few x (so c.numbers_fine.ensures c.if-not-numbers_fine.false-raw) in
    (fine.slots, omega (arith, few, fine.depth), rows_within x fine few)

pub returns-then-not-rows_fine : goal.returns-then-not-rows_fine
unfolding image_lines
returns-then-not-rows_fine c =
    let past5 : (Below (image_lines c.args.image.now)) = let past4 : (Below (image_lines c.args.image.now)) = let past3 : (Below (image_lines c.args.image.now)) = let past2 : (Below (image_lines c.args.image.now)) = let past1 : (Below (image_lines c.args.image.now)) = past top refl (so c.shape_fine.ensures c.if-not-shape_fine.false-raw) in
    past past1 refl (so c.numbers_fine.ensures c.if-not-numbers_fine.false-raw) in
    past past2 refl (so c.unused_zero.ensures c.if-not-unused_zero.false-raw) in
    past past3 refl (equal c.byte.ensures c.if-byte-ne0.false) in
    past past4 refl (so c.zero_at.ensures c.if-not-zero_at.false-raw) in
    stop past5 refl (not_so c.rows_fine.ensures c.if-not-rows_fine.true-raw)

pub returns : goal.returns
unfolding image_lines
returns c =
    let past6 : (Below (image_lines c.args.image.now)) = let past5 : (Below (image_lines c.args.image.now)) = let past4 : (Below (image_lines c.args.image.now)) = let past3 : (Below (image_lines c.args.image.now)) = let past2 : (Below (image_lines c.args.image.now)) = let past1 : (Below (image_lines c.args.image.now)) = past top refl (so c.shape_fine.ensures c.if-not-shape_fine.false-raw) in
    past past1 refl (so c.numbers_fine.ensures c.if-not-numbers_fine.false-raw) in
    past past2 refl (so c.unused_zero.ensures c.if-not-unused_zero.false-raw) in
    past past3 refl (equal c.byte.ensures c.if-byte-ne0.false) in
    past past4 refl (so c.zero_at.ensures c.if-not-zero_at.false-raw) in
    past past5 refl (so c.rows_fine.ensures c.if-not-rows_fine.false-raw) in
    all_hold past6 refl
