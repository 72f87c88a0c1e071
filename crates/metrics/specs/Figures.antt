-- `compute` of metrics.rs: the nine figures, and what a call answers. Definitions only.
use Rattle.std.specs.Prelude.{List, [], ◌∷◌, cond, ℕ, length, Float, Err, Ok, Result}
use Rattle.words.specs.{declared.refusal.Refusal.Refusal, Outcome.Outcome, Outcome.gives, Outcome.refuses}
use Rattle.floats.specs.{Floats.◌⊖◌, Floats.word_of, Sums.return_pct}
use Rattle.metrics.specs.{declared.Metrics.Metrics}
use Rattle.metrics.specs.{Records.equity_of, Records.pnls_of, Records.whole, Quotients.gain_over, Returns.sharpe_ratio, Returns.sortino_ratio}
use Rattle.metrics.specs.{Drawdown.max_drawdown_pct, Trades.win_rate, Trades.profit_factor}

-- `equity.last().copied().unwrap_or(initial)`
unfoldable pub final_equity : Float → List Float → Float
final_equity initial [] = initial
final_equity initial (e ∷ later) = final_equity e later

-- `compute`, over the points' equity and the trades' pnl
unfoldable pub metrics_of : Float → List Float → List Float → Metrics
metrics_of initial equity pnls =
    let pnl = final_equity initial equity ⊖ initial in
    let return = return_pct pnl initial in
    let drawdown = max_drawdown_pct equity in
    record {
      pnl = pnl;
      return_pct = return;
      sharpe = sharpe_ratio equity;
      sortino = sortino_ratio equity;
      calmar = gain_over return drawdown;
      max_drawdown = drawdown;
      win_rate = win_rate pnls;
      profit_factor = profit_factor pnls;
      num_trades = length pnls;
    }

-- What an answer says in the paper's terms: the figures, or a refusal.
unfoldable pub outcome : Result Metrics Refusal → Outcome Metrics
outcome (Ok m) = gives m
outcome (Err refusal) = refuses refusal

-- "13 | .. a row, bar or trade list is not whole records .. | 0"
abbrev pub not_whole : Refusal
not_whole = Refusal.Records

unfoldable pub computed : Float → List ℕ → List ℕ → Outcome Metrics
computed initial equity trades =
    cond (whole equity trades) (gives (metrics_of initial (equity_of equity) (pnls_of trades))) (refuses not_whole)

-- The nine figures as words, in the Rust record's order.
unfoldable pub figure_words : Metrics → List ℕ
figure_words m =
    word_of m.pnl ∷ word_of m.return_pct ∷ word_of m.sharpe ∷ word_of m.sortino ∷ word_of m.calmar
    ∷ word_of m.max_drawdown ∷ word_of m.win_rate ∷ word_of m.profit_factor ∷ m.num_trades ∷ []
