-- An append and its refusals. Definitions only.
use Rattle.std.specs.Prelude.{ℕ, ◌+◌, ◌*◌, ◌/◌, Bool, cond, ◌&&◌, List, ltb, leb, length, set, Err, Ok, Result}
use Rattle.words.specs.{Limits.most_count}
use Rattle.floats.specs.{Floats.float_of, Floats.finite}
use Rattle.blocks.specs.{Blocks.block_bars, Blocks.block_words, Blocks.put, Blocks.grown}
use Rattle.words.specs.{declared.refusal.Refusal.Refusal}

-- what an append answers, and both rooms as it leaves them
pub record Append : Type 0 where
  pub answer : Result ℕ Refusal
  pub closes : List ℕ
  pub blocks : List ℕ

-- room 12 has a place for the next close, and the bars held then can be counted
abbrev pub place_for_close : ℕ → List ℕ → Bool
place_for_close held closes = ltb held (length closes) && ltb held most_count

-- room 13 has a place for the block of that bar
abbrev pub place_for_block : ℕ → List ℕ → Bool
place_for_block held blocks = leb (block_words * (held / block_bars) + block_words) (length blocks)

-- the close as bar `held`, and its block
abbrev pub kept : ℕ → ℕ → List ℕ → List ℕ → Append
kept held close closes blocks = record {
  answer = Ok (held + 1);
  closes = set closes held close;
  blocks = put blocks (held / block_bars) (grown blocks held close);
}

-- a refusal changes neither room
abbrev pub unchanged : Result ℕ Refusal → List ℕ → List ℕ → Append
unchanged answer closes blocks = record { answer = answer; closes = closes; blocks = blocks }

-- "10 if an append has no place, then 11 at the bars held if its close is not finite"
unfoldable pub appended : ℕ → ℕ → List ℕ → List ℕ → Append
appended held close closes blocks =
    cond (place_for_close held closes)
    (cond (place_for_block held blocks)
    (cond (finite (float_of close)) (kept held close closes blocks) (unchanged (Err (Refusal.Bar held)) closes blocks))
    (unchanged (Err (Refusal.Room 13)) closes blocks))
    (unchanged (Err (Refusal.Room 12)) closes blocks)
