-- From one round to the next, and to the end.
use Rattle.std.proofs.Common.{◌≡◌, ◌≢◌, ◌≤◌, ◌<◌, ℕ, ℤ, ◌+◌, List, [], ◌∷◌, ◌++◌, length, true, Option, Some, None, Ok, Err, refl, sym, ap, ◌∙◌, subst, arith, append_assoc, append-nil}
use Rattle.std.proofs.lemmas.List.{length-append, length-map}
use Rattle.fx_outside.specs.Outside.{Files, SameFiles}
use Rattle.fx_seq.specs.declared.fault.SeqFault.{SeqFault}
use Rattle.fx_seq.specs.declared.fault.SeqFault.TheVariants as seq
use Rattle.fx_seq.specs.Filling.{IsQuiet}
use Rattle.fx_seq.proofs.FillingLemmas.{quiet_more, quiet_at_more}
use Rattle.fx_seq.specs.declared.source.SourceFrame.{SourceFrame}
use Rattle.fx_seq.specs.Moments.{due_at}
use Rattle.fx_pipe.specs.declared.made.Made.{Made}
use Rattle.fx_pipe.specs.declared.line.Line.{Line}
use Rattle.fx_pipe.specs.declared.schedule.Schedule.{Schedule}
use Rattle.fx_pipe.specs.declared.read.Kept.{Kept}
use Rattle.fx_pipe.specs.declared.read.Reader.{Reader}
use Rattle.fx_pipe.specs.declared.put.PutStop.TheVariants as stop
use Rattle.fx_pipe.specs.Moments.{AreDue, AreMade, all_of}
use Rattle.fx_pipe.specs.Reads.{kept_size, AreRead, IsUnread, Knows, ReadsOn, ShowsFault, due_places}
use Rattle.fx_pipe.specs.Blocks.{Makes, Puts, SeesSome, fetched_in}
use Rattle.fx_pipe.specs.Ends.{CamePast, Ended, Flows, HasSeen, IsOver, StandsAt, State, StopsAtMemory, StopsAtPut, FlowsIn, end_of, with_makes, with_puts, with_reads}
use Rattle.fx_pipe.proofs.MomentLemmas.{all-append, made_more, put_more, put_but_more}
use Rattle.fx_pipe.proofs.ReadLemmas.{due_read, read_more, read_first, fetch_more}
use Rattle.fx_pipe.proofs.BlockLemmas.{rose_more}

-- a fault is shown as it was, where no fetch failed before it
shows_more : (a b c : ℕ) (x y z : List ℕ) (p : Schedule) (m : ℕ) (e : SeqFault) → IsQuiet a b x y → ShowsFault b c y z p m e → ShowsFault a c x z p m e
shows_more a b c x y z p m e quiet shows =
    record {
      fetch = fetch_more a b c x y z (due_at p.uses.now m) e quiet shows.fetch;
      quiet = quiet_at_more a b c x y z e quiet shows.quiet;
    }

-- nor after it
shows_still : (a b c : ℕ) (x y z : List ℕ) (p : Schedule) (m : ℕ) (e : SeqFault) → ShowsFault a b x y p m e → IsQuiet b c y z → ShowsFault a c x z p m e
shows_still a b c x y z p m e shows quiet =
    subst (λ (n : ℕ). ShowsFault a n x z p m e) (sym quiet.count) (subst (λ (l : List ℕ). ShowsFault a b x l p m e) (sym quiet.last_one) shows)

from_none : (n : ℕ) → n ≡ 0 + n
from_none n = omega arith

module _ (reads puts : Type 0) (right : List SourceFrame → ℕ → Made → Type 0) (p : Schedule) (start : State) where
  -- what the reader stands at after a round
  stands_more : (old new : State) (fs block : List (List SourceFrame)) (reader reader' : Reader) (fault fault' : Option SeqFault)
      → StandsAt reads puts right p start old fs fault → Knows p fs reader → (reads → SameFiles start.read_files old.read_files)
      → ReadsOn reads old.read_files old.read_faults new.read_faults old.read_last new.read_last p reader reader' fault fault' block
      → fault' ≢ Some seq.Memory → StandsAt reads puts right p start new (fs ++ block) fault'
  stands_more old new fs block reader reader' None None stands knows same r none = quiet_more stands r.quiet
  stands_more old new fs block reader reader' None (Some e) stands knows same r none =
      let read = r.read start.read_files fs same knows in
      let at : reader'.next ≡ length (fs ++ block) = read.1.next in (
        subst (λ (n : ℕ). n < p.moments) at (r.before_last refl),
        subst (λ (n : ℕ). IsUnread reads start.read_files p (all_of (fs ++ block)) n e) at (r.unread start.read_files fs same knows refl),
        subst (λ (n : ℕ). ShowsFault start.read_faults new.read_faults start.read_last new.read_last p n e) at
            (shows_more start.read_faults old.read_faults new.read_faults start.read_last old.read_last new.read_last p reader'.next e stands (r.shows refl)),
        λ is. none (ap Some is),
      )
  stands_more old new fs block reader reader' (Some e) fault' stands knows same r none =
      let s = r.stays in
      let all : fs ++ block ≡ fs = ap (λ b. fs ++ b) s.2 ∙ append-nil fs in
      let now : StandsAt reads puts right p start new fs (Some e) =
      (stands.0, stands.1, shows_still start.read_faults old.read_faults new.read_faults start.read_last old.read_last new.read_last p (length fs) e stands.2 s.3, stands.3) in
      subst (λ (f : Option SeqFault). StandsAt reads puts right p start new (fs ++ block) f) (sym s.0)
      (subst (λ (gs : List (List SourceFrame)). StandsAt reads puts right p start new gs (Some e)) (sym all) now)

  -- a reader stands where it stood while others work
  stands_same : (old new : State) (fs : List (List SourceFrame)) (fault : Option SeqFault) → new.read_faults ≡ old.read_faults → new.read_last ≡ old.read_last
      → StandsAt reads puts right p start old fs fault → StandsAt reads puts right p start new fs fault
  stands_same old new fs None count last stands = record { count = count ∙ stands.count; last_one = last ∙ stands.last_one }
  stands_same old new fs (Some e) count last stands = (
    stands.0,
    stands.1,
    shows_still start.read_faults old.read_faults new.read_faults start.read_last old.read_last new.read_last p (length fs) e stands.2 (record { count = count; last_one = last }),
    stands.3,
  )

  -- ---- the three steps

  -- files were put
  pub puts_step : (old : State) (reader : Reader) (fault : Option SeqFault) (fetched : List (List SourceFrame)) (at : ℕ) (made : List Made)
      (files : Files) (faults : ℕ) (last : List ℕ)
      → Flows reads puts right p start old reader fault fetched at made
      → Puts puts made old.put_files files old.put_faults faults old.put_last last (Ok tt)
      → Flows reads puts right p start (with_puts old files faults last) reader fault fetched at []
  puts_step old reader fault fetched at made files faults last h put =
      record {
        handed = h.handed;
        done = h.done ++ made;
        read = h.read;
        knows = h.knows;
        stands = stands_same old (with_puts old files faults last) (h.handed ++ fetched) fault refl refl h.stands;
        made_right = subst (λ (ds : List Made). AreMade right start.seen 0 h.handed ds) (sym (append-nil (h.done ++ made))) h.made_right;
        seen = h.seen;
        next = h.next;
        at_next = h.at_next;
        put = λ told. put_more h.done made start.put_files old.put_files files (h.put told) (put.ok told);
        no_put_failed = quiet_more h.no_put_failed put.quiet;
        same = h.same;
        reads_few = h.reads_few;
        kept_few = h.kept_few;
      }

  -- files were made
  pub makes_step : (old : State) (reader : Reader) (fault : Option SeqFault) (fetched : List (List SourceFrame)) (at : ℕ) (made : List Made)
      (seen : List SourceFrame) (next : ℕ)
      → Flows reads puts right p start old reader fault fetched at []
      → Makes right at fetched made old.seen seen next true
      → Flows reads puts right p start (with_makes old seen next) reader fault [] (at + length fetched) made
  makes_step old reader fault fetched at made seen next h make =
      let all = h.handed ++ fetched in
      let none : all ++ [] ≡ all = append-nil all in
      let many : length all ≡ length h.handed + length fetched = length-append h.handed fetched in
      let ones : AreMade right (start.seen ++ all_of h.handed) (length h.handed) fetched made =
      subst (λ (n : ℕ). AreMade right (start.seen ++ all_of h.handed) n fetched made) h.at_next
      (subst (λ (xs : List SourceFrame). AreMade right xs at fetched made) h.seen (make.right_ones refl)) in
      let before : AreMade right start.seen 0 h.handed h.done =
      subst (λ (ds : List Made). AreMade right start.seen 0 h.handed ds) (append-nil h.done) h.made_right in
      record {
        handed = all;
        done = h.done;
        read = subst (λ (fs : List (List SourceFrame)). AreRead reads start.read_files p [] 0 fs) (sym none) h.read;
        knows = subst (λ (fs : List (List SourceFrame)). Knows p fs reader) (sym none) h.knows;
        stands = subst (λ (fs : List (List SourceFrame)). StandsAt reads puts right p start (with_makes old seen next) fs fault) (sym none)
            (stands_same old (with_makes old seen next) all fault refl refl h.stands);
        made_right = made_more right start.seen 0 h.handed fetched h.done made before
            (subst (λ (n : ℕ). AreMade right (start.seen ++ all_of h.handed) n fetched made) (from_none (length h.handed)) ones);
        seen = make.seen refl ∙ ap (λ xs. xs ++ all_of fetched) h.seen ∙ append_assoc start.seen (all_of h.handed) (all_of fetched)
            ∙ ap (λ xs. start.seen ++ xs) (sym (all-append h.handed fetched));
        next = make.next_is refl ∙ omega (arith, h.at_next, many);
        at_next = omega (arith, h.at_next, many);
        put = h.put;
        no_put_failed = h.no_put_failed;
        same = h.same;
        reads_few = h.reads_few;
        kept_few = h.kept_few;
      }

  -- frames were read
  pub reads_step : (old : State) (reader reader' : Reader) (fault fault' : Option SeqFault) (block : List (List SourceFrame)) (at : ℕ) (made : List Made)
      (files : Files) (faults : ℕ) (last : List ℕ)
      → Flows reads puts right p start old reader fault [] at made
      → ReadsOn reads old.read_files old.read_faults faults old.read_last last p reader reader' fault fault' block
      → (reads → SameFiles old.read_files files) → fault' ≢ Some seq.Memory
      → Flows reads puts right p start (with_reads old files faults last) reader' fault' block at made
  reads_step old reader reader' fault fault' block at made files faults last h r same none =
      let all : h.handed ++ [] ≡ h.handed = append-nil h.handed in
      let knows : Knows p h.handed reader = subst (λ (fs : List (List SourceFrame)). Knows p fs reader) all h.knows in
      let stands : StandsAt reads puts right p start old h.handed fault =
      subst (λ (fs : List (List SourceFrame)). StandsAt reads puts right p start old fs fault) all h.stands in
      let read = r.read start.read_files h.handed h.same knows in
      let more : AreRead reads start.read_files p (all_of h.handed) (length h.handed) block =
      subst (λ (n : ℕ). AreRead reads start.read_files p (all_of h.handed) n block) knows.next read.0 in
      record {
        handed = h.handed;
        done = h.done;
        read = read_more reads start.read_files p [] 0 h.handed block
            (subst (λ (fs : List (List SourceFrame)). AreRead reads start.read_files p [] 0 fs) all h.read)
            (subst (λ (n : ℕ). AreRead reads start.read_files p (all_of h.handed) n block) (from_none (length h.handed)) more);
        knows = read.1;
        stands = stands_more old (with_reads old files faults last) h.handed block reader reader' fault fault' stands knows h.same r none;
        made_right = h.made_right;
        seen = h.seen;
        next = h.next;
        at_next = h.at_next;
        put = h.put;
        no_put_failed = h.no_put_failed;
        same = λ told name. same told name ∙ h.same told name;
        reads_few = r.next;
        kept_few = r.few;
      }

  -- a whole round: a block was put, the one behind it was made, and the one behind that was read
  pub round_step : (old new : State) (line : Line) (reader' : Reader) (fault' : Option SeqFault) (block : List (List SourceFrame)) (made : List Made)
      → FlowsIn reads puts right p start old line
      → Puts puts line.made.items old.put_files new.put_files old.put_faults new.put_faults old.put_last new.put_last (Ok tt)
      → Makes right line.next (fetched_in line.fetched.items) made old.seen new.seen new.next true
      → ReadsOn reads old.read_files old.read_faults new.read_faults old.read_last new.read_last p line.reader reader' line.fault fault' block
      → (reads → SameFiles old.read_files new.read_files) → fault' ≢ Some seq.Memory
      → Flows reads puts right p start new reader' fault' block (line.next + length line.fetched.items) made
  round_step old new line reader' fault' block made h put make read same none =
      let fetched = fetched_in line.fetched.items in
      let many : length fetched ≡ length line.fetched.items = length-map line.fetched.items (λ frames. frames.items) in
      let count : line.next + length fetched ≡ line.next + length line.fetched.items = ap (λ n. line.next + n) many in
      let has_put = with_puts old new.put_files new.put_faults new.put_last in
      let has_made = with_makes has_put new.seen new.next in
      let puts_on = puts_step old line.reader line.fault fetched line.next line.made.items new.put_files new.put_faults new.put_last h put in
      let makes_on = makes_step has_put line.reader line.fault fetched line.next made new.seen new.next puts_on make in
      let reads_on = reads_step has_made line.reader reader' line.fault fault' block (line.next + length fetched) made
      new.read_files new.read_faults new.read_last makes_on read same none in
      subst (λ (n : ℕ). Flows reads puts right p start new reader' fault' block n made) count reads_on

  module _ (old new : State) (reader : Reader) (fault : Option SeqFault) (fetched : List (List SourceFrame)) (at : ℕ) (made : List Made)
      (h : Flows reads puts right p start old reader fault fetched at made) where
    -- the frames that were handed in by the end of the round
    seen_by : (some : SeesSome fetched old.seen new.seen) → HasSeen reads puts right p start new (h.handed ++ some.some)
    seen_by some =
        let all : h.handed ++ fetched ≡ h.handed ++ some.some ++ some.rest = ap (λ b. h.handed ++ b) some.split ∙ sym (append_assoc h.handed some.some some.rest) in
        let many : length (h.handed ++ fetched) ≡ length (h.handed ++ some.some) + length some.rest = ap length all ∙ length-append (h.handed ++ some.some) some.rest in
        record {
          few = omega (arith, many, h.knows.next, h.reads_few);
          read = read_first reads start.read_files p [] 0 (h.handed ++ some.some) some.rest
              (subst (λ (fs : List (List SourceFrame)). AreRead reads start.read_files p [] 0 fs) all h.read);
          seen = some.seen ∙ ap (λ xs. xs ++ all_of some.some) h.seen ∙ append_assoc start.seen (all_of h.handed) (all_of some.some)
              ∙ ap (λ xs. start.seen ++ xs) (sym (all-append h.handed some.some));
        }

    -- what was made, as what was put before and a part of the block
    made_by : (some rest : List Made) → made ≡ some ++ rest → AreMade right start.seen 0 h.handed (h.done ++ some ++ rest)
    made_by some rest split =
        subst (λ (ds : List Made). AreMade right start.seen 0 h.handed ds) (ap (λ ds. h.done ++ ds) split ∙ sym (append_assoc h.done some rest)) h.made_right

    pub ends_at_put : (name : List ℕ) → SeesSome fetched old.seen new.seen
        → Puts puts made old.put_files new.put_files old.put_faults new.put_faults old.put_last new.put_last (Err (stop.Failed name))
        → StopsAtPut reads puts right p start new name
    ends_at_put name some put =
        let b = put.leaves in
        record {
          handed = h.handed;
          more = some.some;
          sees = seen_by some;
          made = h.done ++ b.some;
          one = b.one;
          rest = b.rest;
          made_right = made_by b.some (b.one ∷ b.rest) b.split;
          name_is = b.name_is;
          put = λ told. put_but_more name h.done b.some start.put_files old.put_files new.put_files (h.put told) (b.files told);
          rose = rose_more start.put_faults old.put_faults new.put_faults start.put_last old.put_last h.no_put_failed put.shows.0;
          last = put.shows.1;
        }

    pub ends_at_put_memory : SeesSome fetched old.seen new.seen
        → Puts puts made old.put_files new.put_files old.put_faults new.put_faults old.put_last new.put_last (Err stop.Memory)
        → StopsAtMemory reads puts right p start new
    ends_at_put_memory some put =
        let b = put.leaves in
        record {
          handed = h.handed;
          more = some.some;
          sees = seen_by some;
          made = h.done ++ b.some;
          rest = b.rest;
          made_right = made_by b.some b.rest b.split;
          put = λ told. put_more h.done b.some start.put_files old.put_files new.put_files (h.put told) (b.files told);
          no_put_failed = quiet_more h.no_put_failed put.shows;
        }

    pub ends_at_memory : SeesSome fetched old.seen new.seen
        → Puts puts made old.put_files new.put_files old.put_faults new.put_faults old.put_last new.put_last (Ok tt)
        → StopsAtMemory reads puts right p start new
    ends_at_memory some put =
        record {
          handed = h.handed;
          more = some.some;
          sees = seen_by some;
          made = h.done ++ made;
          rest = [];
          made_right = made_by made [] (sym (append-nil made));
          put = λ told. put_more h.done made start.put_files old.put_files new.put_files (h.put told) (put.ok told);
          no_put_failed = quiet_more h.no_put_failed put.quiet;
        }

  -- nothing is left
  module _ (now : State) (line : Line) (h : FlowsIn reads puts right p start now line) (over : IsOver p.moments line) where
    none_fetched : h.handed ++ fetched_in line.fetched.items ≡ h.handed
    none_fetched = ap (λ b. h.handed ++ fetched_in b) over.fetched ∙ append-nil h.handed

    none_made : h.done ++ line.made.items ≡ h.done
    none_made = ap (λ ds. h.done ++ ds) over.made ∙ append-nil h.done

    past : CamePast reads puts right p start now h.handed h.done
    past =
        let next : line.reader.next ≡ length h.handed = h.knows.next ∙ ap length none_fetched in
        record {
          sees = record {
            few = omega (arith, next, h.reads_few);
            read = subst (λ (fs : List (List SourceFrame)). AreRead reads start.read_files p [] 0 fs) none_fetched h.read;
            seen = h.seen;
          };
          made_right = subst (λ (ds : List Made). AreMade right start.seen 0 h.handed ds) none_made h.made_right;
          next = h.next;
          put = h.put;
          no_put_failed = h.no_put_failed;
        }

    pub ends_over : (fault : Option SeqFault) → line.fault ≡ fault → Ended reads puts right p start now (end_of fault)
    ends_over None is =
        record {
          handed = h.handed;
          made = h.done;
          past = past;
          all = sym (h.knows.next ∙ ap length none_fetched) ∙ (rw is at over.reads);
          no_fetch_failed = rw is at h.stands;
        }
    ends_over (Some e) is =
        let at : StandsAt reads puts right p start now (h.handed ++ fetched_in line.fetched.items) (Some e) = rw is at h.stands in
        let stands : StandsAt reads puts right p start now h.handed (Some e) =
        subst (λ (fs : List (List SourceFrame)). StandsAt reads puts right p start now fs (Some e)) none_fetched at in
        record {
          handed = h.handed;
          made = h.done;
          past = past;
          one = stands.0;
          unread = stands.1;
          shows = stands.2;
          no_memory = stands.3;
        }

-- the frames of the block that was read are those that are due
due_rest : (due : ℕ → List (ℕ × ℤ)) (m : ℕ) (fs gs : List (List SourceFrame)) → AreDue due m (fs ++ gs) → AreDue due (m + length fs) gs
due_rest due m [] gs all =
    let at : m ≡ m + length {A = List SourceFrame} [] = omega arith in
    subst (λ (n : ℕ). AreDue due n gs) at all
due_rest due m (f ∷ fs) gs all =
    let at : m + 1 + length fs ≡ m + length (f ∷ fs) = omega arith in
    subst (λ (n : ℕ). AreDue due n gs) at (due_rest due (m + 1) fs gs all.1)

pub due_now : (reads puts : Type 0) (right : List SourceFrame → ℕ → Made → Type 0) (p : Schedule) (start now : State) (line : Line) (due : ℕ → List (ℕ × ℤ))
    → FlowsIn reads puts right p start now line → ((k : ℕ) → k < p.moments → due k ≡ due_places p.uses.now k)
    → AreDue due line.next (fetched_in line.fetched.items)
due_now reads puts right p start now line due h says =
    let fetched = fetched_in line.fetched.items in
    let few : 0 + length (h.handed ++ fetched) ≤ p.moments = omega (arith, h.knows.next, h.reads_few) in
    let all : AreDue due 0 (h.handed ++ fetched) =
    due_read reads start.read_files p due [] 0 (h.handed ++ fetched) (λ k low. says k (omega (arith, low, few))) h.read in
    let at : 0 + length h.handed ≡ line.next = omega (arith, h.at_next) in
    subst (λ (n : ℕ). AreDue due n fetched) at (due_rest due 0 h.handed fetched all)

-- nothing is read, made or put
pub flows_begin : (reads puts : Type 0) (right : List SourceFrame → ℕ → Made → Type 0) (p : Schedule) (s : State) (reader : Reader)
    → reader.next ≡ 0 → reader.kept.items ≡ [] → s.next ≡ 0 → Flows reads puts right p s s reader None [] 0 []
flows_begin reads puts right p s reader next kept first =
    record {
      handed = [];
      done = [];
      read = tt;
      knows = record { next = next; sizes = λ j low. ap (kept_size p.uses.now j) kept };
      stands = record { count = refl; last_one = refl };
      made_right = tt;
      seen = sym (append-nil s.seen);
      next = first;
      at_next = refl;
      put = λ told name. refl;
      no_put_failed = record { count = refl; last_one = refl };
      same = λ told name. refl;
      reads_few = omega (arith, next);
      kept_few = subst (λ (ks : List Kept). kept_size p.uses.now reader.next ks ≤ p.limit) (sym kept) (omega arith);
    }
