-- "The starred eight are proved of the written rules, a single table under one statement."
use Rattle.std.specs.Prelude.{ℕ, ◌≡◌, refl, true, false, List, [], ◌∷◌, Float, None, Option}
use Rattle.portfolio.specs.{Trade.stop_loss}
use Rattle.rules.specs.{Edges.Said, Edges.answer, Edges.reaches, Edges.starred, Edges.edges}
use Rattle.execution.specs.{Edges.num, Edges.seventy_five_and_a_half, Edges.stop_only, Edges.bar, Edges.stop_edges, Intrabar.intrabar_exit}
use Rattle.execution.specs.{declared.intrabar.Trigger.Trigger}
use Rattle.execution.specs.{Supplied.touches}

-- What the written rules say: of rules, and of a long from 100 in a bar with this open and this low.
pub record Eight : Type 0 where
  pub rules : List Said
  pub stops : List (Option Trigger)

-- whatever the rest of the bar and the favourable extreme are
module _ (time : ℕ) (high close volume extreme : Float) where
  abbrev from100 : Float → Float → Option Trigger
  from100 first low = intrabar_exit (bar time high close volume extreme first low) stop_only (num 100) extreme true

  pub starred_eight : ◌≡◌ {A = Eight}
      (record { rules = starred; stops = from100 (num 70) (num 68) ∷ from100 (num 80) (num 75) ∷ from100 (num 80) seventy_five_and_a_half ∷ [] })
      (record {
        -- ★1 no ★2 yes, ★3 no and yes, ★4 both no, ★5 yes and no, ★6 no and yes, ★7 reach 6
        rules =
            answer false ∷ answer true ∷ answer false ∷ answer true ∷ answer false ∷ answer false
            ∷ answer true ∷ answer false ∷ answer false ∷ answer true ∷ reaches 6 ∷ [];
        -- ★8 open 70, low 68: 70; open 80, low 75: 75; low 75.5: no exit
        stops = touches (num 70) stop_loss ∷ touches (num 75) stop_loss ∷ None ∷ [];
      })
  starred_eight =
      let e = stop_edges time high close volume extreme in
      rw (edges, e.0, e.1, e.2) refl
