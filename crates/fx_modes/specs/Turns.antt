-- What stands between two turns of a run, and the fault of a run whose moments end early.
use Rattle.std.specs.Prelude.{◌≡◌, ◌≢◌, ℕ, List, [], Option, IfNone, IfSome, Result, Ok, Err}
use Rattle.fx_seq.specs.Filling.{IsQuiet}
use Rattle.fx_pipe.specs.declared.end.PipeEnd.{PipeEnd}
use Rattle.fx_pipe.specs.declared.end.PipeEnd.TheVariants.{Done, Source, Put, Memory}
use Rattle.fx_pipe.specs.declared.line.Line.{Line}
use Rattle.fx_pipe.specs.declared.schedule.Schedule.{Schedule}
use Rattle.fx_pipe.specs.Ends.{Ended, FlowsIn, State}
use Rattle.fx_tile.specs.declared.count.TileCount.{TileCount}
use Rattle.fx_words.specs.declared.fault.RunFault.{RunFault}
use Rattle.fx_words.specs.declared.fault.RunFault.TheVariants as run
use Rattle.fx_modes.specs.declared.making.Making.{Making}
use Rattle.fx_modes.specs.Graphs.{Graph}
use Rattle.fx_modes.specs.Making.{MayMake, Plan}
use Rattle.fx_modes.specs.Moments.{IsMomentFile}
use Rattle.fx_modes.specs.Reels.{moments_in}
use Rattle.fx_modes.specs.Steps.{IsSourceFault}

-- the moments of the schedule, which are those of the plan, flow from a first state to one now; where they go one by
-- one, nothing waits there that was read or made
pub record IsUnderWay (reads puts : Type 0) (p : Plan) (schedule : Schedule) (start now : State) (line : Line)
    (m : Making) : Type 0 where
  pub many : moments_in p.reel ≡ schedule.moments
  pub may : MayMake p schedule.uses.now 0 m
  pub flows : FlowsIn reads puts (IsMomentFile p.reel) schedule start now line
  pub fetched : schedule.ahead ≡ 0 → line.fetched.items ≡ []
  pub made : schedule.ahead ≡ 0 → line.made.items ≡ []

-- One step of the moments: they are under way still, or it is an end, which is not that all were put
pub record Moves (reads puts : Type 0) (schedule : Schedule) (old new : State) (line line' : Line) (m m' : Making)
    (end : Option PipeEnd) : Type 0 where
  pub written : m'.scene.script.written ≡ m.scene.script.written
  pub way :
      (p : Plan) (start : State) → IsUnderWay reads puts p schedule start old line m
      → IfNone end (IsUnderWay reads puts p schedule start new line' m')
  pub ends :
      (p : Plan) (start : State) → IsUnderWay reads puts p schedule start old line m
      → IfSome end (Ended reads puts (IsMomentFile p.reel) schedule start new)
  pub not_done : IfSome end (λ e. e ≢ Done)

-- no fetch failed where a file was not put
abbrev pub QuietAtPut : ℕ → ℕ → List ℕ → List ℕ → PipeEnd → Type 0
QuietAtPut before now was last (Put name) = IsQuiet before now was last
QuietAtPut before now was last other = Unit {0}

-- the fault of a run whose moments end so: once all files were put it is want of memory
abbrev pub IsEndFault : Graph → PipeEnd → RunFault → Type 0
IsEndFault g Done e = e ≡ run.Memory
IsEndFault g (Source fault) e = IsSourceFault g fault e
IsEndFault g (Put name) e = e ≡ run.Write name
IsEndFault g Memory e = e ≡ run.Memory

-- the run's count, once all files were put, or its fault
abbrev pub IsFinished : Graph → PipeEnd → TileCount → Result TileCount RunFault → Type 0
IsFinished g end sum (Ok count) = (end ≡ Done) × (count ≡ sum)
IsFinished g end sum (Err e) = IsEndFault g end e
