-- The code goes down the lines: where one holds, or a list judged by itself is fine, what stands below it decides; where it does
-- not, it decides, and nothing below it is looked at.
use Rattle.std.specs.Prelude.{◌≡◌, refl, Bool, true, false, not, List, [], ◌∷◌, ◌++◌, Err, Ok}
use Rattle.words.specs.Prelude.{sym, ap, ◌∙◌, not-true, not-false}
use Rattle.words.specs.{declared.refusal.Refusal.Refusal}
use Rattle.refusals.specs.{Lines.Line, Lines.judged, Laws.Lines.below_fine, Laws.Lines.below_bad}
use Rattle.refusals.specs.{Lines.Verdict}

-- a test that a function answers with yes
pub so : {r ok : Bool} → r ≡ ok → not r ≡ false → ok ≡ true
so {r} e h = sym e ∙ not-false r h

-- a test that a function answers with no
pub not_so : {r ok : Bool} → r ≡ ok → not r ≡ true → ok ≡ false
not_so {r} e h = sym e ∙ not-true r h

-- no line is left
pub no_line : (Ok tt) ≡ judged []
unfolding judged
no_line = refl

-- a line that holds
pub fine_line : (l : Line) (ls : List Line) {v : Verdict} → l.ok ≡ true → v ≡ judged ls → v ≡ judged (l ∷ ls)
unfolding judged
fine_line l ls h e = simp h e

-- a line that does not
pub bad_line : (l : Line) (ls : List Line) → l.ok ≡ false → Err l.why ≡ judged (l ∷ ls)
unfolding judged
bad_line l ls h = simp h

-- a list of lines that is fine by itself
pub fine_block : (a b : List Line) {w v : Verdict} → w ≡ judged a → w ≡ Ok tt → v ≡ judged b → v ≡ judged (a ++ b)
fine_block a b j h e = e ∙ sym (below_fine a b (sym j ∙ h))

-- a list of lines that is not
pub bad_block : (a b : List Line) {w : Verdict} {r : Refusal} → w ≡ judged a → w ≡ Err r → Err r ≡ judged (a ++ b)
bad_block a b {r = r} j h = sym (below_bad a b r (sym j ∙ h))

-- What is left of the lines where those above it hold: it decides as all of them do. At every test of the code it is one line, or one block, less than at
-- the test before.
pub record Below (ls : List Line) : Type 0 where
  pub rest : List Line
  pub decides : judged rest ≡ judged ls

-- all of them, before the first is looked at
abbrev pub top : {ls : List Line} → Below ls
top {ls} = record { rest = ls; decides = refl }

-- the next line holds
abbrev pub past : {ls below : List Line} {l : Line} (b : Below ls) → b.rest ≡ l ∷ below → l.ok ≡ true → Below ls
past {below = below} {l = l} b e h = record { rest = below; decides = fine_line l below h refl ∙ ap judged (sym e) ∙ b.decides }

-- it does not
pub stop : {ls below : List Line} {l : Line} (b : Below ls) → b.rest ≡ l ∷ below → l.ok ≡ false → Err l.why ≡ judged ls
stop b e h = bad_line _ _ h ∙ ap judged (sym e) ∙ b.decides

-- the next lines, judged by themselves, are fine
abbrev pub past_block : {ls : List Line} {w : Verdict} (b : Below ls) (a below : List Line) → w ≡ judged a → b.rest ≡ a ++ below → w ≡ Ok tt → Below ls
past_block b a below j e h = record { rest = below; decides = fine_block a below j h refl ∙ ap judged (sym e) ∙ b.decides }

-- they are not
pub stop_block : {ls : List Line} {w : Verdict} {r : Refusal} (b : Below ls) (a below : List Line) → w ≡ judged a → b.rest ≡ a ++ below → w ≡ Err r
    → Err r ≡ judged ls
stop_block b a below j e h = bad_block a below j h ∙ ap judged (sym e) ∙ b.decides

-- the last lines, judged by themselves
pub last_block : {ls : List Line} {v : Verdict} (b : Below ls) → v ≡ judged b.rest → v ≡ judged ls
last_block b e = e ∙ b.decides

-- none is left
pub all_hold : {ls : List Line} (b : Below ls) → b.rest ≡ [] → (Ok tt) ≡ judged ls
all_hold b e = no_line ∙ ap judged (sym e) ∙ b.decides
