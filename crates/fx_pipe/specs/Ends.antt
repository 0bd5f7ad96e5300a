-- How a pipeline ends: how far the plain order came, in which the frames of each moment are read, its file is made and
-- put before the next moment.
use Rattle.std.specs.Prelude.{◌≡◌, ◌≢◌, ℕ, ◌≤◌, ◌<◌, List, [], ◌∷◌, ◌++◌, length, Option, Some, None, IfNone}
use Rattle.fx_outside.specs.Outside.{Files, HasRisen, SameFiles, SameBut}
use Rattle.fx_seq.specs.declared.fault.SeqFault.{SeqFault}
use Rattle.fx_seq.specs.declared.fault.SeqFault.TheVariants as seq
use Rattle.fx_seq.specs.Filling.{IsQuiet}
use Rattle.fx_seq.specs.declared.source.SourceFrame.{SourceFrame}
use Rattle.fx_pipe.specs.declared.made.Made.{Made}
use Rattle.fx_pipe.specs.declared.end.PipeEnd.{PipeEnd}
use Rattle.fx_pipe.specs.declared.end.PipeEnd.TheVariants.{Done, Source, Put, Memory}
use Rattle.fx_pipe.specs.declared.schedule.Schedule.{Schedule}
use Rattle.fx_pipe.specs.declared.line.Line.{Line}
use Rattle.fx_pipe.specs.declared.read.Reader.{Reader}
use Rattle.fx_pipe.specs.Moments.{AreMade, all_of, with_all}
use Rattle.fx_pipe.specs.Reads.{AreRead, IsUnread, Knows, ShowsFault, kept_size}
use Rattle.fx_pipe.specs.Blocks.{fetched_in}

-- what clauses see of a library, a depot and a stage
pub record State : Type 0 where
  pub read_files : Files
  pub read_faults : ℕ
  pub read_last : List ℕ
  pub put_files : Files
  pub put_faults : ℕ
  pub put_last : List ℕ
  pub seen : List SourceFrame
  pub next : ℕ

abbrev pub state_of : {L D S : Type 0} → (L → Files) → (L → ℕ) → (L → List ℕ) → (D → Files) → (D → ℕ) → (D → List ℕ)
    → (S → List SourceFrame) → (S → ℕ) → L → D → S → State
state_of file faults last put_file put_faults put_last seen next library depot stage =
    record {
      read_files = file library;
      read_faults = faults library;
      read_last = last library;
      put_files = put_file depot;
      put_faults = put_faults depot;
      put_last = put_last depot;
      seen = seen stage;
      next = next stage;
    }

module _ (reads puts : Type 0) (right : List SourceFrame → ℕ → Made → Type 0) (p : Schedule) (old new : State) where
  -- The frames of some first moments were read, one moment after the other, and handed in. No put failed
  pub record HasSeen (handed : List (List SourceFrame)) : Type 0 where
    pub few : length handed ≤ p.moments
    pub read : AreRead reads old.read_files p [] 0 handed
    pub seen : new.seen ≡ old.seen ++ all_of handed

  -- the plain order came past these moments: of each a file was made that is right, and put; and nothing else was put
  pub record CamePast (handed : List (List SourceFrame)) (made : List Made) : Type 0 where
    pub sees : HasSeen handed
    pub made_right : AreMade right old.seen 0 handed made
    pub next : new.next ≡ length handed
    pub put : puts → SameFiles (with_all made old.put_files) new.put_files
    pub no_put_failed : IsQuiet old.put_faults new.put_faults old.put_last new.put_last

  -- every moment
  pub record IsDone : Type 0 where
    pub handed : List (List SourceFrame)
    pub made : List Made
    pub past : CamePast handed made
    pub all : length handed ≡ p.moments
    pub no_fetch_failed : IsQuiet old.read_faults new.read_faults old.read_last new.read_last

  -- the moments before one whose frames were not read
  pub record StopsAtSource (e : SeqFault) : Type 0 where
    pub handed : List (List SourceFrame)
    pub made : List Made
    pub past : CamePast handed made
    pub one : length handed < p.moments
    pub unread : IsUnread reads old.read_files p (all_of handed) (length handed) e
    pub shows : ShowsFault old.read_faults new.read_faults old.read_last new.read_last p (length handed) e
    pub no_memory : e ≢ seq.Memory

  -- The moments before one whose file was not put. More may have been handed in
  pub record StopsAtPut (name : List ℕ) : Type 0 where
    pub handed : List (List SourceFrame)
    pub more : List (List SourceFrame)
    pub sees : HasSeen (handed ++ more)
    pub made : List Made
    pub one : Made
    pub rest : List Made
    pub made_right : AreMade right old.seen 0 handed (made ++ one ∷ rest)
    pub name_is : one.name ≡ name
    pub put : puts → SameBut name (with_all made old.put_files) new.put_files
    pub rose : HasRisen old.put_faults new.put_faults
    pub last : new.put_last ≡ name

  -- some first moments
  pub record StopsAtMemory : Type 0 where
    pub handed : List (List SourceFrame)
    pub more : List (List SourceFrame)
    pub sees : HasSeen (handed ++ more)
    pub made : List Made
    pub rest : List Made
    pub made_right : AreMade right old.seen 0 handed (made ++ rest)
    pub put : puts → SameFiles (with_all made old.put_files) new.put_files
    pub no_put_failed : IsQuiet old.put_faults new.put_faults old.put_last new.put_last

  abbrev pub Ended : PipeEnd → Type 0
  Ended Done = IsDone
  Ended (Source e) = StopsAtSource e
  Ended (Put name) = StopsAtPut name
  Ended Memory = StopsAtMemory

  -- ---- between two rounds

  -- what the reader stands at
  abbrev pub StandsAt : List (List SourceFrame) → Option SeqFault → Type 0
  StandsAt fs None = IsQuiet old.read_faults new.read_faults old.read_last new.read_last
  StandsAt fs (Some e) =
      (length fs < p.moments) × IsUnread reads old.read_files p (all_of fs) (length fs) e
      × ShowsFault old.read_faults new.read_faults old.read_last new.read_last p (length fs) e
      × (e ≢ seq.Memory)

  -- Between two steps: the moments that were made, of which some were put, those that were read besides, the moment
  -- that is to be made next, and what was made and not put
  pub record Flows (reader : Reader) (fault : Option SeqFault) (fetched : List (List SourceFrame)) (at : ℕ)
      (made : List Made) : Type 0 where
    pub handed : List (List SourceFrame)
    pub done : List Made
    pub read : AreRead reads old.read_files p [] 0 (handed ++ fetched)
    pub knows : Knows p (handed ++ fetched) reader
    pub stands : StandsAt (handed ++ fetched) fault
    pub made_right : AreMade right old.seen 0 handed (done ++ made)
    pub seen : new.seen ≡ old.seen ++ all_of handed
    pub next : new.next ≡ length handed
    pub at_next : at ≡ length handed
    pub put : puts → SameFiles (with_all done old.put_files) new.put_files
    pub no_put_failed : IsQuiet old.put_faults new.put_faults old.put_last new.put_last
    pub same : reads → SameFiles old.read_files new.read_files
    pub reads_few : reader.next ≤ p.moments
    pub kept_few : kept_size p.uses.now reader.next reader.kept.items ≤ p.limit

  -- what lies between two rounds
  abbrev pub FlowsIn : Line → Type 0
  FlowsIn line = Flows line.reader line.fault (fetched_in line.fetched.items) line.next line.made.items

-- another library, depot or stage
abbrev pub with_reads : State → Files → ℕ → List ℕ → State
with_reads s files faults last = record s { read_files = files; read_faults = faults; read_last = last }

abbrev pub with_puts : State → Files → ℕ → List ℕ → State
with_puts s files faults last = record s { put_files = files; put_faults = faults; put_last = last }

abbrev pub with_makes : State → List SourceFrame → ℕ → State
with_makes s seen next = record s { seen = seen; next = next }

-- nothing is left to be read, made or put
pub record IsOver (moments : ℕ) (line : Line) : Type 0 where
  pub reads : IfNone line.fault (line.reader.next ≡ moments)
  pub fetched : line.fetched.items ≡ []
  pub made : line.made.items ≡ []

abbrev pub end_of : Option SeqFault → PipeEnd
end_of None = Done
end_of (Some e) = Source e
