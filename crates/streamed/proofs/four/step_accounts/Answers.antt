-- The rooms of the call, the stream, then each account by its own call.
use Rattle.streamed.specs.{Accounts.given, Accounts.lent}
use Rattle.streamed.proofs.{Accounting.accounts_short, Accounting.accounts_ran, Accounting.taken_so}
use Rattle.streamed.proofs.four.step_accounts.Goals as goal

pub judge_streams-requires : goal.judge_streams-requires
judge_streams-requires c = tt

pub answer_word-requires : goal.answer_word-requires
answer_word-requires c = tt

pub returns-in-Err : goal.returns-in-Err
returns-in-Err c = accounts_short _ _ _ c.judge_streams.ensures c.in-Err.is c.answer_word.ensures

pub word-slots-requires : goal.word-slots-requires
word-slots-requires c = tt

pub word-seen-requires : goal.word-seen-requires
word-seen-requires c = tt

pub take_bars-taken-requires : goal.take_bars-taken-requires
take_bars-taken-requires c = tt

pub account-requires : goal.account-requires
account-requires c = taken_so c.take_bars-taken.ensures

pub account-requires-2 : goal.account-requires-2
account-requires-2 c = taken_so c.take_bars-taken.ensures

pub account-requires-3 : goal.account-requires-3
account-requires-3 c = taken_so c.take_bars-taken.ensures

pub account-requires-4 : goal.account-requires-4
account-requires-4 c = taken_so c.take_bars-taken.ensures

pub count_bars-requires : goal.count_bars-requires
count_bars-requires c = taken_so c.take_bars-taken.ensures

pub answer_of-requires : goal.answer_of-requires
answer_of-requires c = tt

pub returns : goal.returns
returns c =
    let a = c.args in
    accounts_ran a.bars.now
    (record {
      first = given a.a_table.now a.a_settings.now a.a_entry.now a.a_exit.now;
      second = given a.b_table.now a.b_settings.now a.«b_entry».now a.b_exit.now;
      third = given a.c_table.now a.c_settings.now a.c_entry.now a.c_exit.now;
      fourth = given a.d_table.now a.d_settings.now a.d_entry.now a.d_exit.now;
    })
    (record {
      stream = a.stream.now;
      done = a.done.now;
      first = lent a.a_state.now a.a_rows.now a.a_equity.now a.a_trades.now
          a.a_status.now;
      second = lent a.b_state.now a.b_rows.now a.b_equity.now a.b_trades.now a.b_status.now;
      third = lent
          a.c_state.now a.c_rows.now a.c_equity.now a.c_trades.now a.c_status.now;
      fourth = lent a.d_state.now a.d_rows.now a.d_equity.now a.d_trades.now a.d_status.now;
    })
    c.judge_streams.ensures c.in_default.is c.word-slots.ensures c.word-seen.ensures
    c.take_bars-taken.ensures c.answer_of.ensures c.count_bars.ensures c.account.ensures c.account-2.ensures
    c.account-3.ensures c.account-4.ensures
