-- `node_at` meets its contract: sixteen bytes of the table, all 0 past its end.
-- Assumes nothing.
use Rattle.words.specs.Prelude.{◌≡◌, List, ℕ, ◌+◌, ◌*◌, ◌≤◌, arith, length, rules}
use Rattle.table.specs.{Nodes.node_at}
use Rattle.table.proofs.{Past.past8, Past.past16, Past.past32, Past.past64}
use Rattle.table.proofs.nodes.node_at.Goals as goal

past_node : (t : List ℕ) (i : ℕ) → length t ≤ 16 + 16 * i
    → record { number = i; kind = 0; selector = 0; children = 0; n = 0; constant = 0 } ≡ node_at t i
unfolding node_at
past_node t i h =
    cc (
      past8 t (16 + 16 * i) h,
      past8 t (17 + 16 * i) (omega arith),
      past16 t (18 + 16 * i) (omega arith),
      past32 t (20 + 16 * i) (omega arith),
      past64 t (24 + 16 * i) (omega arith),
    )

pub returns-then-i-t : goal.returns-then-i-t
unfolding node_at
returns-then-i-t c = cc

pub returns-else-i-t : goal.returns-else-i-t
returns-else-i-t c = past_node _ _ (search rules)
