-- The list that is run to leave a position is that of its side; flat, the entry lists are run one after the other.
use Rattle.words.specs.Prelude.{ℕ, ◌≡◌, refl, sym, ap, ◌∙◌, Bool, true, false, cond, List}
use Rattle.floats.specs.{Floats.◌≺◌, Floats.zero}
use Rattle.rows.specs.{History.History}
use Rattle.rules.specs.{declared.position.PositionState.PositionState, Values.held}
use Rattle.portfolio.specs.{declared.Portfolio.Portfolio, Portfolio.in_position, Portfolio.is_long}
use Rattle.execution.specs.{declared.level.OrderKind.OrderKind}
use Rattle.steps.specs.{Choice.exit_list}
use Rattle.records.specs.{Lent.Lists}
use Rattle.engine.specs.{Decide.list_says, Decide.answers_of, Decide.ordered, Decide.opening_order, Decide.closing_order}
use Rattle.engine.proofs.decide.order_of.Goals as goal

by_side : (d : ℕ) (h : History) (st : PositionState) (x y : List ℕ) (long : Bool)
    → closing_order d (list_says h st (cond long x y)) ≡ cond long (closing_order d (list_says h st x)) (closing_order d (list_says h st y))
by_side d h st x y true = refl
by_side d h st x y false = refl

leaving : (d : ℕ) (kind : OrderKind) (p : Portfolio) (h : History) (st : PositionState) (ls : Lists) (leave : Bool) → in_position p ≡ true
    → leave ≡ list_says h st (exit_list p.qty ls.«exit» ls.short_exit) → closing_order d leave ≡ ordered d kind p (answers_of h st ls)
unfolding ordered answers_of in_position is_long exit_list held
leaving d kind p h st ls leave i e = rw (e, i) (by_side d h st ls.«exit» ls.short_exit (zero ≺ p.qty))

opening : (d : ℕ) (kind : OrderKind) (p : Portfolio) (h : History) (st : PositionState) (ls : Lists) (long short : Bool) → in_position p ≡ false
    → long ≡ list_says h st ls.entry → short ≡ list_says h st ls.short_entry → opening_order d kind long short ≡ ordered d kind p (answers_of h st ls)
unfolding ordered answers_of
opening d kind p h st ls long short i e f = rw (e, f, i)

pub returns-then-list_says : goal.returns-then-list_says
unfolding closing_order
returns-then-list_says c =
    leaving _ _ _ _ _ _ true (sym c.in_position.ensures ∙ c.if-in_position.true)
    (sym c.if-list_says.true ∙ c.list_says.ensures ∙ ap (list_says _ _) c.exit_list-list.ensures)

pub returns-then-in_position : goal.returns-then-in_position
unfolding closing_order
returns-then-in_position c =
    leaving _ _ _ _ _ _ false (sym c.in_position.ensures ∙ c.if-in_position.true)
    (sym c.if-list_says.false ∙ c.list_says.ensures ∙ ap (list_says _ _) c.exit_list-list.ensures)

pub returns-then-list_says-2 : goal.returns-then-list_says-2
unfolding opening_order
returns-then-list_says-2 c =
    opening _ _ _ _ _ _ true _ (sym c.in_position.ensures ∙ c.if-in_position.false) (sym c.if-list_says-2.true ∙ c.list_says-2.ensures) refl

pub returns-then-list_says-3 : goal.returns-then-list_says-3
unfolding opening_order
returns-then-list_says-3 c =
    opening _ _ _ _ _ _ false true (sym c.in_position.ensures ∙ c.if-in_position.false)
    (sym c.if-list_says-2.false ∙ c.list_says-2.ensures) (sym c.if-list_says-3.true ∙ c.list_says-3.ensures)

pub returns : goal.returns
unfolding opening_order
returns c =
    opening _ _ _ _ _ _ false false (sym c.in_position.ensures ∙ c.if-in_position.false)
    (sym c.if-list_says-2.false ∙ c.list_says-2.ensures) (sym c.if-list_says-3.false ∙ c.list_says-3.ensures)
