use Rattle.wasm_sem.proofs.Runs.{run_add, trace_add}
use Rattle.wasm_sem.proofs.HostCounts.{hosts_counted}
use Rattle.wasm_sem.proofs.Ended.{slots_stay, stays_over, shows_no_more}
use Rattle.wasm_sem.proofs.laws.runs_go_on.Goals as goal

pub returns : goal.returns
returns c = record { runs = run_add; traces = trace_add; slots = slots_stay; hosts = hosts_counted; over = stays_over; quiet = shows_no_more }
