-- Tables and rules are the same thing: an accepted table is the table of the rule that it holds, and the table of every rule
-- within the paper's limits is accepted and holds that rule. So the checker accepts what the paper describes, reads it as what
-- it is, and refuses no table of a rule within the limits. A form is a version, 1 or 2, and a number of slots: this holds of both versions.
-- Assumes nothing.
use Rattle.std.specs.Prelude.{◌≡◌, List, ℕ, ◌+◌, max}
use Rattle.table.specs.{declared.header.Form.Form, Header.form_of, Checked.checked, Trees.reach_of, Writing.Rule}
use Rattle.table.specs.{Writing.nodes_of_rule, Writing.table_of, Writing.rule_of, Limits.RuleWithin, Bytes.Bytes}
use Rattle.roundtrip.specs.{Laws.AcceptedWritten.round_trip, Laws.AcceptedWithin.rule_within, Laws.WrittenBytes.written_bytes}
use Rattle.roundtrip.specs.{Laws.WrittenTrees.reach_of_short, Laws.WrittenAccepted.is_accepted, Laws.WrittenAccepted.reads_back}
use Rattle.table.specs.{Outcome.accepts}

-- **An accepted table is the table of the rule that it holds**: its four trees, written in prefix order under the paper's
-- header, are its own bytes. (`Bytes`: each is below 256, as in every `&[u8]`.)
pub accepted_is_written : (t : List ℕ) (n r : ℕ) → Bytes t → checked t ≡ accepts n r → table_of (form_of t) (rule_of t) ≡ t
accepted_is_written t n r small ok = round_trip t small n r ok

-- **and that rule is within the limits.**
pub accepted_is_within : (t : List ℕ) (n r : ℕ) → Bytes t → checked t ≡ accepts n r → RuleWithin (form_of t) (rule_of t)
accepted_is_within t n r small ok = rule_within t small n r ok

-- **The table of every rule within the limits is accepted**, with the rule's number of nodes and one row more than its greatest
-- reach,
pub written_is_accepted : (form : Form) (r : Rule) → RuleWithin form r
    → checked (table_of form r)
    ≡ accepts (nodes_of_rule r)
    (max (max (reach_of r.entry) (reach_of r.exit)) (max (reach_of_short r.short_entry) (reach_of_short r.short_exit)) + 1)
written_is_accepted form r within = is_accepted form r within

-- **and holds that rule.**
pub written_reads_back : (form : Form) (r : Rule) → RuleWithin form r → rule_of (table_of form r) ≡ r
written_reads_back form r within = reads_back form r within

-- (It is a byte string.)
pub written_is_bytes : (form : Form) (r : Rule) → RuleWithin form r → Bytes (table_of form r)
written_is_bytes form r within = written_bytes form r within
