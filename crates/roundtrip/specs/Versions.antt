-- Two versions of a table. "Version 1 tables mean what they meant, and a version 1 reader still gives 3." (request 8)
-- Assumes nothing.
use Rattle.std.specs.Prelude.{◌≡◌, true, false, List, ℕ, ◌≤◌, length, Err}
use Rattle.words.specs.Prelude.{le-ltb}
use Rattle.table.specs.{Header.version, Header.mark_right, Header.version_right, Header.header_refusal, Kinds.kind_of}
use Rattle.table.specs.{Kinds.extremum, Laws.Kinds.extreme_since_lem, Nodes.node_at, Nodes.kind_right, Nodes.own_right, Nodes.node_right, Checked.or_header}
use Rattle.table.specs.{Checked.checked_up_to, Checked.checked}
use Rattle.words.specs.declared.refusal.Refusal.TheVariants as Refusal

-- **Tables of version 1 are answered as before**: the reader of both versions gives them the version 1 reader's answer, whatever
-- else they hold.
pub first_as_before : (t : List ℕ) → version t ≡ 1 → checked t ≡ checked_up_to 1 t
unfolding checked checked_up_to header_refusal version_right
first_as_before t one = rw one

-- **A version 1 reader still gives 3** for a table of version 2, where rules 1 and 2 are kept.
pub first_refuses_second : (t : List ℕ) → 16 ≤ length t → mark_right t ≡ true → version t ≡ 2 → checked_up_to 1 t ≡ Err Refusal.Version
unfolding checked_up_to or_header header_refusal version_right
first_refuses_second t long mark two = simp (le-ltb (length t) 16 long, mark, two)

-- **A table of version 1 has no Highest and no Lowest**: the own bytes of such a node are wrong there, as those of any unknown kind.
pub first_has_none : (t : List ℕ) (i : ℕ) → version t ≡ 1 → kind_of (node_at t i).kind ≡ extremum → node_right t i ≡ false
unfolding node_right own_right kind_right
first_has_none t i one row = rw (extreme_since_lem (node_at t i).kind row, row, one)
