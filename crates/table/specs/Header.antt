-- The header, and the rules 1 to 5. Definitions only.
use Rattle.std.specs.Prelude.{Bool, not, cond, ◌&&◌, List, ℕ, zero, suc, ◌+◌, ◌*◌, length, get_or, ltb, leb, eqb, Option, Some, None}
use Rattle.words.specs.{Limits.most_slots, Limits.most_nodes, declared.refusal.Refusal.Refusal}
use Rattle.table.specs.{Bytes.u16, declared.header.Form.Form, declared.trees.Tree.Tree, declared.trees.Tree.TheVariants.Entry}
use Rattle.table.specs.{declared.trees.Tree.TheVariants.Exit, declared.trees.Tree.TheVariants.ShortEntry, declared.trees.Tree.TheVariants.ShortExit}

-- "Header, 16 bytes: mark `RTB`; slot count K (one byte, 0 to 64); version, 16 bits, 1; total nodes (16 bits, 2 to 256); node
-- counts of entry, exit, short entry, short exit (16 bits each; the first two at least 1, 0 means absent; they sum to the
-- total)."
unfoldable pub mark_right : List ℕ → Bool
mark_right t = eqb (get_or t 0 0) 82 && eqb (get_or t 1 0) 84 && eqb (get_or t 2 0) 66

abbrev pub slots : List ℕ → ℕ
slots t = get_or t 3 0

abbrev pub version : List ℕ → ℕ
version t = u16 t 4

-- what a node's own bytes are judged by beside its kind
abbrev pub form_of : List ℕ → Form
form_of t = record { version = version t; slots = slots t }

-- "Table version 2" (request 8): the newest version that there is
abbrev pub newest_version : ℕ
newest_version = 2

-- whether a reader of versions 1 to `newest` reads the table's
unfoldable pub version_right : ℕ → List ℕ → Bool
version_right newest t = leb 1 (version t) && leb (version t) newest

abbrev pub total : List ℕ → ℕ
total t = u16 t 6

-- tree x: 0 entry, 1 exit, 2 short entry, 3 short exit
abbrev pub count : List ℕ → ℕ → ℕ
count t x = u16 t (8 + 2 * x)

unfoldable pub counts_right : List ℕ → Bool
counts_right t =
    not (ltb most_slots (slots t))
    && not (ltb (total t) 2)
    && not (ltb most_nodes (total t))
    && not (ltb (count t 0) 1)
    && not (ltb (count t 1) 1)
    && eqb (count t 0 + count t 1 + count t 2 + count t 3) (total t)

-- The first of these rules that the table breaks, none where it breaks none:
-- "1 table under 16 bytes; 2 mark wrong; 3 version not 1; 4 K, total or tree counts against the rules; 5 length not
-- 16 + 16·total". "a version 1 reader still gives 3" (request 8): 3 is for a version that the reader does not read.
unfoldable pub header_refusal : ℕ → List ℕ → Option Refusal
header_refusal newest t =
    cond (ltb (length t) 16) (Some Refusal.Size)
    (cond (not (mark_right t)) (Some Refusal.Mark)
    (cond (not (version_right newest t)) (Some Refusal.Version)
    (cond (not (counts_right t)) (Some Refusal.Counts)
    (cond (not (eqb (length t) (16 + 16 * total t))) (Some Refusal.Length)
    None))))

-- "Nodes are numbered from 0 over the whole table": the number of tree x's first node, its root; that of tree 4 is the end.
unfoldable pub root : List ℕ → ℕ → ℕ
root t zero = 0
root t (suc x) = root t x + count t x

-- "entry, exit, short entry, short exit": the trees in the header's order
abbrev pub tree_number : Tree → ℕ
tree_number Entry = 0
tree_number Exit = 1
tree_number ShortEntry = 2
tree_number ShortExit = 3
