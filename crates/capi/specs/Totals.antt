-- The calls that keep exact totals. Definitions only.
use Rattle.std.specs.Prelude.{ℕ, List, Err, Ok, Result}
use Rattle.words.specs.{Outcome.Outcome, Outcome.gives, Outcome.refuses}
use Rattle.totals.specs.{Totals.add_answer, Totals.add_leaves}
use Rattle.totals.specs.{Totals.join_answer, Totals.join_leaves}
use Rattle.replies.specs.{Call.Call, Call.call_of}
use Rattle.words.specs.{declared.refusal.Refusal.Refusal}

-- lent: the totals
unfoldable pub totals_gives : Result (Unit {0}) Refusal → List ℕ → Outcome (List ℕ)
totals_gives (Ok _) after = gives after
totals_gives (Err why) after = refuses why

unfoldable pub totals_call : List ℕ → List ℕ → Call (List ℕ)
totals_call totals trades = call_of (totals_gives (add_answer totals trades) (add_leaves totals trades)) totals

unfoldable pub join_call : List ℕ → List ℕ → Call (List ℕ)
join_call totals other = call_of (totals_gives (join_answer totals other) (join_leaves totals other)) totals
