-- A question and its refusals. Definitions only.
use Rattle.std.specs.Prelude.{ℕ, ◌+◌, ◌-◌, ◌*◌, ◌/◌, Bool, cond, ◌&&◌, List, ltb, leb, length, Err, Ok, Result}
use Rattle.words.specs.{Limits.most_count}
use Rattle.blocks.specs.{Blocks.block_bars, Blocks.block_words, Reads.reads, Reads.told}
use Rattle.blocks.specs.{declared.best.Best.Best}
use Rattle.words.specs.{declared.refusal.Refusal.Refusal}

-- "13 | counts .. exceed the rooms or 4,294,967,295": each bar has its close, and its block
abbrev pub holds : ℕ → List ℕ → List ℕ → Bool
holds held closes blocks =
    leb held most_count && (leb held (length closes) && leb (block_words * ((held + block_bars - 1) / block_bars)) (length blocks))

-- "18 if the first bar is after the last or either does not exist"
abbrev pub exists : ℕ → ℕ → ℕ → Bool
exists held first last = leb first last && (ltb first held && ltb last held)

-- "The highest and lowest close between two bars", both included, by what a question over them reads.
unfoldable pub stretched : ℕ → ℕ → ℕ → List ℕ → List ℕ → Result Best Refusal
stretched held first last closes blocks =
    cond (holds held closes blocks)
    (cond (exists held first last) (Ok (told closes blocks (reads first (last + 1 - first)))) (Err Refusal.Stretch))
    (Err Refusal.Records)
