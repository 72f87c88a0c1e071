-- The table of a rule within the limits is a byte string: each of its numbers is below 256.
-- Assumes nothing.
use Rattle.std.specs.Prelude.{List, [], ◌∷◌, ◌++◌, ℕ, zero, suc, ◌/◌, ◌%◌, ◌≤◌, ◌<◌, get_or}
use Rattle.words.specs.Prelude.{arith}
use Rattle.words.specs.{Limits.most_slots, Limits.most_nodes}
use Rattle.table.specs.{declared.header.Form.Form, declared.nodes.Node.Node, Forest.Forest, Forest.flat, Trees.Condition, Writing.le16, Writing.le32}
use Rattle.table.specs.{Writing.le64, Writing.node, Writing.node_bytes, Writing.nodes_bytes, Writing.write_condition, Writing.nodes_of, Writing.Short}
use Rattle.table.specs.{Writing.absent, Writing.given, Writing.Rule, Writing.nodes_of_short, Writing.write_short, Writing.nodes_of_rule, Writing.header_of}
use Rattle.table.specs.{Writing.table_of, Limits.WithinOf, Limits.ShortWithin, Limits.RuleWithin, Bytes.Bytes}
use Rattle.roundtrip.specs.{Laws.OwnBytes.NodeFits, Laws.OwnBytes.FieldsFit, Laws.WrittenForestKept.fields_of, Laws.NodeBytes.tree_bytes}
use Rattle.roundtrip.specs.{Laws.WrittenForest.plant_of, Laws.WrittenForest.condition_bytes}

unfoldable AllBytes : List ℕ → Type 0
AllBytes [] = Unit
AllBytes (b ∷ bs) = (b < 256) × AllBytes bs

bytes_of : (l : List ℕ) (i : ℕ) → AllBytes l → get_or l i 0 < 256
unfolding AllBytes
bytes_of [] i s = omega arith
bytes_of (b ∷ bs) zero s = s.0
bytes_of (b ∷ bs) (suc i) s = bytes_of bs i s.1

small_two : (a b : List ℕ) → AllBytes a → AllBytes b → AllBytes (a ++ b)
unfolding AllBytes
small_two [] b sa sb = sb
small_two (x ∷ a) b sa sb = (sa.0, small_two a b sa.1 sb)

small16 : (x : ℕ) → x < 65536 → AllBytes (le16 x)
unfolding AllBytes le16
small16 x h = (omega arith, (omega arith, tt))

small32 : (x : ℕ) → x < 4294967296 → AllBytes (le32 x)
unfolding le32
small32 x h = small_two (le16 (x % 65536)) (le16 (x / 65536)) (small16 (x % 65536) (omega arith)) (small16 (x / 65536) (omega arith))

small64 : (x : ℕ) → x < 18446744073709551616 → AllBytes (le64 x)
unfolding le64
small64 x h = small_two (le32 (x % 4294967296)) (le32 (x / 4294967296)) (small32 (x % 4294967296) (omega arith)) (small32 (x / 4294967296) (omega arith))

small_node : (k s c n x : ℕ) → k < 256 → s < 256 → c < 65536 → n < 4294967296 → x < 18446744073709551616 → AllBytes (node k s c n x)
unfolding node AllBytes
small_node k s c n x hk hs hc hn hx =
    (hk, (hs, small_two (le16 c ++ le32 n) (le64 x) (small_two (le16 c) (le32 n) (small16 c hc) (small32 n hn)) (small64 x hx)))

small_bytes : (n : Node) → NodeFits n → AllBytes (node_bytes n)
unfolding node_bytes
small_bytes n f = small_node n.kind n.selector n.children n.n n.constant f.kind f.selector f.children f.n f.constant

small_none : AllBytes []
unfolding AllBytes
small_none = tt

-- nodes whose fields fit, and so a tree within the limits
small_forest : (f : Forest) → FieldsFit f → AllBytes (nodes_bytes (flat f))
unfolding FieldsFit nodes_bytes flat
small_forest Forest.none fit = small_none
small_forest (Forest.tree n below rest) fit =
    rw tree_bytes (small_two _ _ (small_two _ _ (small_bytes n fit.0) (small_forest below fit.1)) (small_forest rest fit.2))

module _ (form : Form) (few : form.slots ≤ most_slots) where
  small_condition : (c : Condition) → WithinOf form c → nodes_of c ≤ most_nodes → AllBytes (write_condition c)
  unfolding FieldsFit
  small_condition c w h = rw (← condition_bytes c 0) (small_forest (plant_of 0 c Forest.none) (fields_of form few c 0 Forest.none w h tt))

  small_short : (s : Short) → ShortWithin form s → nodes_of_short s ≤ most_nodes → AllBytes (write_short s)
  unfolding ShortWithin write_short nodes_of_short
  small_short absent w h = small_none
  small_short (given c) w h = small_condition c w.fields h

small_six : (a b c d e f : List ℕ) → AllBytes a → AllBytes b → AllBytes c → AllBytes d → AllBytes e → AllBytes f → AllBytes (a ++ b ++ c ++ d ++ e ++ f)
small_six a b c d e f sa sb sc sd se sf =
    small_two (a ++ b ++ c ++ d ++ e) f (small_two (a ++ b ++ c ++ d) e (small_two (a ++ b ++ c) d (small_two (a ++ b) c (small_two a b sa sb) sc) sd) se) sf

small_header : (form : Form) (r : Rule) → RuleWithin form r → AllBytes (header_of form r)
unfolding header_of nodes_of_rule AllBytes
small_header form r w =
    let few = w.few_slots in
    let version = w.known_version in
    let total = w.few_nodes in (
      omega arith,
      (
        omega arith,
        (
          omega arith,
          (
            omega arith,
            small_six
                (le16 form.version) (le16 (nodes_of_rule r)) (le16 (nodes_of r.entry)) (le16 (nodes_of r.exit)) (le16 (nodes_of_short r.short_entry))
                (le16 (nodes_of_short r.short_exit))
                (small16 form.version (omega arith))
                (small16 (nodes_of_rule r) (omega arith))
                (small16 (nodes_of r.entry) (omega arith))
                (small16 (nodes_of r.exit) (omega arith))
                (small16 (nodes_of_short r.short_entry) (omega arith))
                (small16 (nodes_of_short r.short_exit) (omega arith)),
          ),
        ),
      ),
    )

pub written_bytes : (form : Form) (r : Rule) → RuleWithin form r → Bytes (table_of form r)
unfolding Bytes table_of nodes_of_rule
written_bytes form r w i =
    let few = w.few_slots in
    let total = w.few_nodes in
    bytes_of _ i
    (small_two _ (write_short r.short_exit)
    (small_two _ (write_short r.short_entry)
    (small_two _ (write_condition r.exit)
    (small_two (header_of form r) (write_condition r.entry) (small_header form r w) (small_condition form few r.entry w.entry.fields (omega arith)))
    (small_condition form few r.exit w.exit.fields (omega arith)))
    (small_short form few r.short_entry w.short_entry (omega arith)))
    (small_short form few r.short_exit w.short_exit (omega arith)))
