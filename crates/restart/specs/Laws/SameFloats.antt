-- States with the same position, order and last bar have the same floats.
use Rattle.std.specs.Prelude.{◌≡◌}
use Rattle.records.specs.{declared.state.State.State, Laws.RoundTrip.Floats64}

pub floats_alike : (t t' : State) → t.position ≡ t'.position → t.last ≡ t'.last → t.order ≡ t'.order → Floats64 t → Floats64 t'
floats_alike t t' position last order f = record {
  cash = rw (← position) f.cash;
  qty = rw (← position) f.qty;
  entry_price = rw (← position) f.entry_price;
  entry_fee = rw (← position) f.entry_fee;
  fees_paid = rw (← position) f.fees_paid;
  funding = rw (← position) f.funding;
  worst = rw (← position) f.worst;
  extreme = rw (← position) f.extreme;
  close = rw (← last) f.close;
  order = rw (← order) f.order;
}
