-- Which rank, desk and recorder a thread was started with.
use Rattle.cb_rank_runs.specs.Crews.{Member}
use Rattle.cb_rank_threads.specs.declared.promises.Running.{Running}

module _ {S T : Type 0} where
  -- the rank and its desk, as the thread was given them
  abbrev pub started : Running S T → Member
  started running = (running.thread.promise.rank.value, running.thread.promise.desk.value)

  -- the recorder, as the thread was given it
  abbrev pub started_recorder : Running S T → T
  started_recorder running = running.thread.promise.recorder.value
