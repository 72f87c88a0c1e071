-- The kinds by name: the number of each. Definitions only.
use Rattle.std.specs.Prelude.{ℕ}

-- "1 Const (constant, finite); 2 Ref (n = slot, below K); 3 Price (selector 0..6 ..); 4 Prev (n; one operand)"
abbrev pub const : ℕ
const = 1

abbrev pub ref : ℕ
ref = 2

abbrev pub price : ℕ
price = 3

abbrev pub prev : ℕ
prev = 4

-- "5..8 Add, Sub, Mul, Div"
abbrev pub add : ℕ
add = 5

abbrev pub sub : ℕ
sub = 6

abbrev pub mul : ℕ
mul = 7

abbrev pub div : ℕ
div = 8

-- "Kinds 9 and 10, Highest and Lowest" (request 8)
abbrev pub highest : ℕ
highest = 9

abbrev pub lowest : ℕ
lowest = 10

-- "16..21 Gt, Lt, Ge, Le, Eq, Ne"
abbrev pub gt : ℕ
gt = 16

abbrev pub lt : ℕ
lt = 17

abbrev pub ge : ℕ
ge = 18

abbrev pub le : ℕ
le = 19

abbrev pub eq : ℕ
eq = 20

abbrev pub ne : ℕ
ne = 21

-- "22, 23 CrossAbove, CrossBelow (two operands)"
abbrev pub cross_above : ℕ
cross_above = 22

abbrev pub cross_below : ℕ
cross_below = 23

-- "24 Between (value, low, high); 25, 26 Rising, Falling (n; one operand)"
abbrev pub between : ℕ
between = 24

abbrev pub rising : ℕ
rising = 25

abbrev pub falling : ℕ
falling = 26

-- "27, 28 All, Any (0 or more conditions); 29 Not (one condition)"
abbrev pub all : ℕ
all = 27

abbrev pub any : ℕ
any = 28

abbrev pub not : ℕ
not = 29

-- "30 InPosition (selector 0 or 1); 31 BarsSinceEntry (selector 0..4 ..)"
abbrev pub in_position : ℕ
in_position = 30

abbrev pub bars_since_entry : ℕ
bars_since_entry = 31
