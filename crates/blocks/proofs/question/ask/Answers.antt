-- A block where one begins at the first bar and fits, else that bar; then the rest of what is read.
use Rattle.words.specs.Prelude.{sym, ap, ◌∙◌, ◌+◌, ◌-◌, rules}
use Rattle.blocks.specs.{declared.best.Best.Best, Reads.reads, Reads.best, Reads.onto, Reads.told, Laws.Reads.reads-block}
use Rattle.blocks.specs.{Laws.Reads.reads_close}
use Rattle.blocks.proofs.question.ask.Goals as goal

pub returns-then-begins_block : goal.returns-then-begins_block
unfolding told best
returns-then-begins_block c =
    let start = c.args in
    let begins = sym c.begins_block.ensures ∙ c.if-begins_block.true in
    let closes = start.closes.now in
    let blocks = start.blocks.now in
    c.onward.ensures ∙ ap (λ (x : Best). onto closes blocks x (reads (start.first + 64) (start.n - 64))) c.block-best.ensures
    ∙ sym (ap (told closes blocks) (reads-block start.first start.n begins))

pub returns : goal.returns
unfolding told best
returns c =
    let start = c.args in
    let not = sym c.begins_block.ensures ∙ c.if-begins_block.false in
    let closes = start.closes.now in
    let blocks = start.blocks.now in
    c.onward-2.ensures ∙ ap (λ (x : Best). onto closes blocks x (reads (start.first + 1) (start.n - 1))) c.one-best.ensures
    ∙ sym (ap (told closes blocks) (reads_close start.first start.n (search rules) not))
