-- One moment of a run: it is read, made and put.
use Rattle.std.proofs.Common.{◌≡◌, ◌≢◌, ◌≤◌, ℕ, IfSome, ◌+◌, List, [], ◌∷◌, ◌++◌, length, true, Bool, Option, Some, None, Ok, Err, refl, sym, ap, ◌∙◌, subst, arith, append-nil}
use Rattle.std.proofs.lemmas.List.{length-append}
use Rattle.fx_outside.specs.Outside.{Files, SameFiles}
use Rattle.fx_seq.specs.declared.fault.SeqFault.{SeqFault}
use Rattle.fx_seq.specs.declared.fault.SeqFault.TheVariants as seq
use Rattle.fx_seq.specs.Filling.{IsQuiet}
use Rattle.fx_seq.specs.declared.source.SourceFrame.{SourceFrame}
use Rattle.fx_seq.specs.declared.used.Use.{Use}
use Rattle.fx_pipe.specs.declared.made.Made.{Made}
use Rattle.fx_pipe.specs.declared.line.Line.{Line}
use Rattle.fx_pipe.specs.declared.schedule.Schedule.{Schedule}
use Rattle.fx_pipe.specs.declared.read.Reader.{Reader}
use Rattle.fx_pipe.specs.declared.put.PutStop.TheVariants as stop
use Rattle.fx_pipe.specs.Reads.{AreRead, ReadsOn}
use Rattle.fx_pipe.specs.Blocks.{Makes, PutBut, Puts, SeesSome, fetched_in}
use Rattle.fx_pipe.specs.Moments.{AreMade, all_of}
use Rattle.fx_pipe.proofs.BlockLemmas.{HasMade}
use Rattle.fx_pipe.specs.Ends.{Flows, StandsAt, State, StopsAtMemory, StopsAtPut, with_makes, with_puts, with_reads}
use Rattle.fx_pipe.proofs.FlowLemmas.{ends_at_memory, ends_at_put, ends_at_put_memory, makes_step, puts_step, reads_step}
use Rattle.fx_pipe.proofs.MomentLemmas.{made_few}
use Rattle.fx_modes.specs.declared.making.Making.{Making}
use Rattle.fx_modes.specs.Making.{AreDue, MayMake, Plan}
use Rattle.fx_modes.specs.Moments.{IsMomentFile}
use Rattle.fx_modes.specs.Turns.{IsUnderWay}

-- the frames of the moments that were read are those that are due
pub due_rest : (reads : Type 0) (files : Files) (p : Schedule) (before : List SourceFrame) (m : ℕ) (fs gs : List (List SourceFrame))
    → AreRead reads files p before m (fs ++ gs) → AreDue p.uses.now (m + length fs) gs
due_rest reads files p before m [] [] read = tt
due_rest reads files p before m [] (g ∷ gs) read =
    let at : m ≡ m + length {A = List SourceFrame} [] = omega arith in
    let next : m + 1 + length {A = List SourceFrame} [] ≡ m + length {A = List SourceFrame} [] + 1 = omega arith in
    let rest : AreDue p.uses.now (m + length {A = List SourceFrame} [] + 1) gs =
    subst (λ (n : ℕ). AreDue p.uses.now n gs) next (due_rest reads files p (before ++ g) (m + 1) [] gs read.1) in
    (rw (sym at) read.0.are, rest)
due_rest reads files p before m (f ∷ fs) gs read =
    let at : m + 1 + length fs ≡ m + length (f ∷ fs) = omega arith in
    subst (λ (n : ℕ). AreDue p.uses.now n gs) at (due_rest reads files p (before ++ f) (m + 1) fs gs read.1)

-- every file of a block was made
pub made_whole : (right : List SourceFrame → ℕ → Made → Type 0) (seen : List SourceFrame) (first : ℕ) (block left : List (List SourceFrame))
    (made : List Made) (now : List SourceFrame) (next : ℕ) → HasMade right seen first block left made now → left ≡ []
    → next + length left ≡ first + length block → Makes right first block made seen now next true
made_whole right seen first block left made now next h none count =
    let all : block ≡ h.some = h.split ∙ ap (λ l. h.some ++ l) none ∙ append-nil h.some in
    record {
      next_is = λ _. omega (arith, count, ap length none);
      seen = λ _. h.sees ∙ ap (λ b. seen ++ all_of b) (sym all);
      right_ones = λ _. subst (λ (b : List (List SourceFrame)). AreMade right seen first b made) (sym all) h.are;
      some = record { some = h.some; rest = left; split = h.split; seen = h.sees };
    }

-- what flows between two turns, where nothing waits
pub flows_now : (reads puts : Type 0) (p : Plan) (schedule : Schedule) (start now : State) (line : Line) (m : Making)
    → IsUnderWay reads puts p schedule start now line m → schedule.ahead ≡ 0
    → Flows reads puts (IsMomentFile p.reel) schedule start now line.reader line.fault [] now.next []
flows_now reads puts p schedule start now line m w one =
    let right = IsMomentFile p.reel in
    let h = w.flows in
    let at : line.next ≡ now.next = h.at_next ∙ sym h.next in
    subst (λ (n : ℕ). Flows reads puts right schedule start now line.reader line.fault [] n []) at
    (subst (λ (ds : List Made). Flows reads puts right schedule start now line.reader line.fault [] line.next ds) (w.made one)
    (subst (λ (fs : List (List SourceFrame)). Flows reads puts right schedule start now line.reader line.fault fs line.next line.made.items)
    (ap fetched_in (w.fetched one)) h))

-- nothing was put
puts_none : (tells : Type 0) (files : Files) (faults : ℕ) (last : List ℕ) → Puts tells [] files files faults faults last last (Ok tt)
puts_none tells files faults last =
    record { ok = λ told name. refl; quiet = record { count = refl; last_one = refl }; shows = tt; leaves = tt }

-- nor was anything handed in
sees_none : (seen : List SourceFrame) → SeesSome [] seen seen
sees_none seen = record { some = []; rest = []; split = refl; seen = sym (append-nil seen) }

module _ (reads puts : Type 0) (right : List SourceFrame → ℕ → Made → Type 0) (p : Schedule) (start old : State)
    (reader reader' : Reader) (fault fault' : Option SeqFault) (block : List (List SourceFrame)) (at : ℕ)
    (files : Files) (faults : ℕ) (last : List ℕ)
    (h : Flows reads puts right p start old reader fault [] at [])
    (r : ReadsOn reads old.read_files old.read_faults faults old.read_last last p reader reader' fault fault' block)
    (same : reads → SameFiles old.read_files files) where
  -- no memory was there to read
  pub not_read : (seen : List SourceFrame) → StopsAtMemory reads puts right p start (with_reads old files faults last)
  not_read seen =
      ends_at_memory reads puts right p start old (with_reads old files faults last) reader fault [] at [] h
      (sees_none old.seen) (puts_none puts old.put_files old.put_faults old.put_last)

  module _ (none : fault' ≢ Some seq.Memory) where
    abbrev read : State
    read = with_reads old files faults last

    has_read : Flows reads puts right p start read reader' fault' block at []
    has_read = reads_step reads puts right p start old reader reader' fault fault' block at [] files faults last h r same none

    -- they are due, and are of the moments that are left
    pub block_due : AreDue p.uses.now at block
    block_due =
        let all = due_rest reads start.read_files p [] 0 has_read.handed block has_read.read in
        let same : 0 + length has_read.handed ≡ at = omega (arith, has_read.at_next) in
        subst (λ (n : ℕ). AreDue p.uses.now n block) same all

    pub block_few : at + length block ≤ p.moments
    block_few =
        let many : length (has_read.handed ++ block) ≡ length has_read.handed + length block = length-append has_read.handed block in
        omega (arith, many, has_read.at_next, has_read.knows.next, has_read.reads_few)

    module _ (made : List Made) (seen : List SourceFrame) (next : ℕ) (all : Bool)
        (m : Makes right at block made old.seen seen next all) where
      -- no memory was there to make them
      pub not_made : StopsAtMemory reads puts right p start (with_makes read seen next)
      not_made =
          ends_at_memory reads puts right p start read (with_makes read seen next) reader' fault' block at [] has_read
          m.some (puts_none puts old.put_files old.put_faults old.put_last)

      module _ (is : all ≡ true) where
        abbrev made_now : State
        made_now = with_makes read seen next

        has_made : Flows reads puts right p start made_now reader' fault' [] (at + length block) made
        has_made =
            makes_step reads puts right p start read reader' fault' block at made seen next has_read
            (subst (λ (b : Bool). Makes right at block made old.seen seen next b) is m)

        pub put_all : (put_files : Files) (put_faults : ℕ) (put_last : List ℕ)
            → Puts puts made old.put_files put_files old.put_faults put_faults old.put_last put_last (Ok tt)
            → Flows reads puts right p start (with_puts made_now put_files put_faults put_last) reader' fault' [] next []
        put_all put_files put_faults put_last put =
            subst (λ (n : ℕ). Flows reads puts right p start (with_puts made_now put_files put_faults put_last) reader' fault' [] n [])
            (sym (m.next_is is))
            (puts_step reads puts right p start made_now reader' fault' [] (at + length block) made put_files put_faults put_last has_made put)

        pub put_failed : (put_files : Files) (put_faults : ℕ) (put_last : List ℕ) (name : List ℕ)
            → Puts puts made old.put_files put_files old.put_faults put_faults old.put_last put_last (Err (stop.Failed name))
            → StopsAtPut reads puts right p start (with_puts made_now put_files put_faults put_last) name
        put_failed put_files put_faults put_last name put =
            ends_at_put reads puts right p start made_now (with_puts made_now put_files put_faults put_last) reader' fault' [] (at + length block) made
            has_made name (sees_none seen) put

        -- then no fetch failed either, where of a block that has a fault no frame was read
        pub put_quiet : {F : Type 0} (fetched : List F) → (fetched ≡ [] → block ≡ []) → IfSome fault' (λ _. fetched ≡ [])
            → (put_files : Files) (name : List ℕ) → PutBut puts made old.put_files put_files name
            → IsQuiet start.read_faults faults start.read_last last
        put_quiet fetched empty single put_files name but = by fault' refl has_read.stands
          where
            full : block ≡ [] → ⊥
            full none =
                let many : length made ≡ length block = made_few right old.seen at block made (m.right_ones is) in
                let split = length-append but.some (but.one ∷ but.rest) in
                omega (arith, many, split, ap length but.split, ap length none)

            by : (f : Option SeqFault) → fault' ≡ f → StandsAt reads puts right p start read (has_read.handed ++ block) f
                → IsQuiet start.read_faults faults start.read_last last
            by None none stands = stands
            by (Some e) some stands = absurd (full (empty (rw some at single)))

        pub put_memory : (put_files : Files) (put_faults : ℕ) (put_last : List ℕ)
            → Puts puts made old.put_files put_files old.put_faults put_faults old.put_last put_last (Err stop.Memory)
            → StopsAtMemory reads puts right p start (with_puts made_now put_files put_faults put_last)
        put_memory put_files put_faults put_last put =
            ends_at_put_memory reads puts right p start made_now (with_puts made_now put_files put_faults put_last) reader' fault' [] (at + length block) made
            has_made (sees_none seen) put

-- what bytes are spare is no matter
pub spare_may : (p : Plan) (uses : List Use) (more : ℕ) (m other : Making) → MayMake p uses more m
    → MayMake p uses more (record m { spare = other.spare })
spare_may p uses more m other may =
    record {
      plan = may.plan;
      uses_are = may.uses_are;
      few = may.few;
      making = record {
        at = record {
          scale = may.making.at.scale;
          written = may.making.at.written;
          takes = may.making.at.takes;
          graph = may.making.at.graph;
          left = may.making.at.left;
          file = may.making.at.file;
          first = may.making.at.first;
          last = may.making.at.last;
          from = may.making.at.from;
          to = may.making.at.to;
          next = may.making.at.next;
        };
        read = may.making.read;
        crew = may.making.crew;
        crew_is = record {
          there = may.making.crew_is.there;
          side = may.making.crew_is.side;
          capacity = may.making.crew_is.capacity;
          wholes = may.making.crew_is.wholes;
          weight = may.making.crew_is.weight;
        };
        knew = may.making.knew;
        hold = may.making.hold;
        counted = may.making.counted;
      };
    }
