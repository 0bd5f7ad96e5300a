-- Each step keeps the rule.
use Rattle.std.proofs.Common.{◌≡◌, ℕ, ◌+◌, ◌-◌, ◌<◌, ◌≤◌, eqb, ◌≢◌, List, [], ◌∷◌, ◌++◌, length, get_or, set, sum_by, Option, Some, None, sym, refl, ap, ◌∙◌, subst, inl, inr, ⊎_elim, arith, length-set, get_or-set_other, get_or-set_same, eq-eqb, ne_eqb}
use Rattle.std.proofs.lemmas.List.Sums.{sum_by-append}
use mathlib.Core.Logic.{dite}
use mathlib.Core.Option.{some, none}
use native.Mathlib.Decide.{ℕ_discrete}
use prog.Atomic.{either}
use lib.ListN.{get_elem?}
use lib.Seq.{set-get_or}
use Rattle.atomic_table.specs.Table.{State, Me, step, keeps, takes, gives, stepped, carried_after, rest, Act, Valid, Allows, Splits, Joins}
use Rattle.atomic_table.proofs.Lists.{at_set, set_here, set_else, set_again, at_longer, at_snoc, exchanged}
use Rattle.fx_turn.specs.declared.rule.View.{View}
use Rattle.fx_turn.specs.declared.rule.Turn.{Turn}
use Rattle.fx_turn.specs.declared.rule.Turn.TheVariants.{Free, Has, Awaits, Fills}
use Rattle.fx_turn.specs.Tallies.{six, IsAtMost}
use Rattle.fx_turn.specs.Claims.{times, mark_of, NumbersDiffer, AreAmong, OnlyOwnLeft}
use Rattle.fx_turn.specs.Seats.{IsPlain}
use Rattle.fx_turn.specs.Turning.{seen_turn, turn_of, with_turn, one_less, one_part, both, spent, Knows, AtHome, Filled, Ruled, given, Taken, Given, Won}
use Rattle.fx_turn.proofs.Lists.{there, at_lt, at_one, at_alone, sum_set, sum_at, sum_two, sum_none, sum_alone, sum_sole}
use Rattle.fx_turn.proofs.Tallying.{six_at}
use Rattle.fx_turn.proofs.CallerLemmas.{times-append, marked_once, mark_in-append}
use Rattle.fx_turn.proofs.ClaimsLemmas.{after_among, times-claims_after}

-- the holder of k becomes id
abbrev pub held_by : (ℕ → ℕ) → ℕ → ℕ → ℕ → ℕ
held_by holder k id j = either (eqb j k) id (holder j)

held_here : (holder : ℕ → ℕ) (k id : ℕ) → held_by holder k id k ≡ id
held_here holder k id = rw (eq-eqb k k refl) refl

held_else : (holder : ℕ → ℕ) (k id j : ℕ) → j ≢ k → held_by holder k id j ≡ holder j
held_else holder k id j ne = rw (ne_eqb j k ne) refl

module _ {N V M : Type 0} (fits : N → V → Type 0) (tally : V → List ℕ) (claims : V → List (ℕ × M)) where
  abbrev pub W : Type 0
  W = View N V M

  abbrev pub St : Type 0
  St = State (Option V) W

  abbrev pub Rule : N → St → Type 0
  Rule = Filled fits tally claims

  abbrev said : List (ℕ × Option V) → V → V
  said [] d = d
  said (x ∷ xs) d = elim x.1 [ Some v ↦ v | None ↦ d ]

  -- a change of one view that leaves f of it
  same_sum : (f : W → ℕ) (views : List W) (id : ℕ) (w u : W) → get_elem? views id ≡ some w → f u ≡ f w → sum_by f (set views id u) ≡ sum_by f views
  same_sum f views id w u at same = let t = sum_set f views id w u at in omega arith

  -- what a value counts is all that is counted in its row: other values of the row count nothing
  pub value_has : (name : N) (s : St) (r : Rule name s) (f : V → ℕ) → ((v : V) → IsPlain tally claims v → f v ≡ 0) → (k : ℕ) (v : V) → get_elem? r.values k ≡ some v → sum_by f r.values ≤ f v
  value_has name s r f plain_none k v at = dite (ℕ_discrete (length r.values) 1)
      (λ one. let t = sum_sole f r.values k v at (λ j u at_u ne. let a = at_lt r.values j u at_u in let b = at_lt r.values k v at in absurd (ne (omega arith))) in omega arith)
      (λ more. let b = at_lt r.values k v at in let t = sum_none f r.values (λ j u at_u. plain_none u (r.plain (omega arith) j u at_u)) in omega arith)

  plain_tally : (i : ℕ) → i < 6 → (v : V) → IsPlain tally claims v → get_or (tally v) i 0 ≡ 0
  plain_tally i h v p = ap (λ (t : List ℕ). get_or t i 0) p.0 ∙ six_at (λ _. 0) i h

  pub plain_times : (n : ℕ) (v : V) → IsPlain tally claims v → times n (claims v) ≡ 0
  plain_times n v p = ap (times n) p.1

  -- a seat has no more than the value
  tally_agrees : (name : N) (s : St) (r : Rule name s) (id k : ℕ) (w : W) (v : V) → get_elem? s.views id ≡ some w → get_elem? r.values k ≡ some v → IsAtMost w.tally (tally v)
  tally_agrees name s r id k w v at_w at_v i h = let a = sum_at (λ (z : W). get_or z.tally i 0) s.views id w at_w in let b = r.tallies i h in
      let c = value_has name s r (λ u. get_or (tally u) i 0) (plain_tally i h) k v at_v in omega arith

  times_agree : (name : N) (s : St) (r : Rule name s) (id k : ℕ) (w : W) (v : V) → get_elem? s.views id ≡ some w → get_elem? r.values k ≡ some v → (n : ℕ) → times n w.claims ≤ times n (claims v)
  times_agree name s r id k w v at_w at_v n = let a = sum_at (λ (z : W). times n z.claims) s.views id w at_w in let b = r.numbers n in
      let c = value_has name s r (λ u. times n (claims u)) (plain_times n) k v at_v in omega arith

  takes_turn : (name : N) (s : St) (r : Rule name s) (id k : ℕ) (me : W) (v : V) → get_elem? s.views id ≡ some me → me.turn ≡ Free → 0 < me.parts
      → get_elem? r.values k ≡ some v → get_or s.words k 0 ≡ 0 → k < length s.homes
      → Rule name (stepped s k 1 id [] (with_turn me (Has k v)) (takes k (Some v)))
  takes_turn name s r id k me v at free some_part here at_zero inside = let w : W = with_turn me (Has k v) in let wide = r.wide in let known = r.each_seat id me at in record {
    values = r.values;
    holder = held_by r.holder k id;
    wide = length-set s.words k 1 ∙ (r.wide ∙ sym (length-set s.homes k _));
    count = r.count ∙ sym (length-set s.homes k _);
    each_slot = λ j u there_j. let old = r.each_slot j u there_j in (
      old.0,
      dite (ℕ_discrete j k)
          (λ e. let same : v ≡ u = at_one r.values k v u here (subst (λ z. get_elem? r.values z ≡ some u) e there_j) in
          inr (
            subst (λ z. get_or (set s.words k 1) z 0 ≡ 1) (sym e) (get_or-set_same s.words k 1 0 (omega arith)),
            (
              w,
              subst (λ z. get_elem? (set s.views id w) z ≡ some w) (sym (ap (held_by r.holder k id) e ∙ held_here r.holder k id)) (set_here s.views id w (at_lt s.views id me at)),
              (let m : k ≡ j = sym e in λ q. Has (m q) (same q)),
            ),
          ))
          (λ ne. let still : get_or (set s.words k 1) j 0 ≡ get_or s.words j 0 = get_or-set_other s.words k j 1 0 ne in ⊎_elim
          (λ home. inl (still ∙ home.0, set_else s.homes k j _ ne ∙ home.1))
          (λ out. let is : held_by r.holder k id j ≡ r.holder j = held_else r.holder k id j ne in
          let apart : r.holder j ≢ id = λ q. let one : out.1.0 ≡ me = at_one s.views id out.1.0 me (subst (λ z. get_elem? s.views z ≡ some out.1.0) q out.1.1) at in let a = ap (λ (z : W). z.turn) one in let b = out.1.2 in cc in
          inr (still ∙ out.0, (out.1.0, subst (λ z. get_elem? (set s.views id w) z ≡ some out.1.0) (sym is) (set_else s.views id (r.holder j) w apart ∙ out.1.1), out.1.2)))
          old.1),
    );
    each_seat = λ i u there_i. ⊎_elim
        (λ same. let is : w ≡ u = same.1 in subst (λ (z : W). Knows name (set s.words k 1) r.values (held_by r.holder k id) i z) is record {
          named = known.named;
          turn = refl;
          has = λ j x has. let e : k ≡ j = cc in let f : v ≡ x = cc in (
            ap (held_by r.holder k id) (sym e) ∙ (held_here r.holder k id ∙ sym same.0),
            some_part,
            subst (λ z. get_or (set s.words k 1) z 0 ≡ 1) e (get_or-set_same s.words k 1 0 (omega arith)),
            subst (λ (z : ℕ × V). get_elem? r.values z.0 ≡ some z.1) (λ q. (e q, f q)) here,
          );
          nothing = known.nothing;
        })
        (λ other. let knows = r.each_seat i u other.1 in record {
          named = knows.named;
          turn = knows.turn;
          has = λ j x has. let o = knows.has j x has in let ne : j ≢ k = λ q. let z : get_or s.words j 0 ≡ get_or s.words k 0 = ap (λ y. get_or s.words y 0) q in let p = o.2 in omega arith in (
            held_else r.holder k id j ne ∙ o.0,
            o.1,
            get_or-set_other s.words k j 1 0 ne ∙ o.2,
            o.3,
          );
          nothing = knows.nothing;
        })
        (at_set s.views id i w u there_i);
    parts = same_sum (λ (z : W). z.parts) s.views id me w at refl ∙ r.parts;
    tallies = λ i h. r.tallies i h ∙ sym (same_sum (λ (z : W). get_or z.tally i 0) s.views id me w at refl);
    numbers = λ n. r.numbers n ∙ sym (same_sum (λ (z : W). times n z.claims) s.views id me w at refl);
    marks = λ i j u x there_i there_j. ⊎_elim
        (λ same. subst (λ (z : W). AreAmong z.claims (claims x)) same.1 (r.marks id j me x at there_j))
        (λ other. r.marks i j u x other.1 there_j)
        (at_set s.views id i w u there_i);
    plain = r.plain;
  }

  gives_turn : (name : N) (s : St) (r : Rule name s) (id k : ℕ) (me : W) (before now : V) → get_elem? s.views id ≡ some me → me.turn ≡ Has k before
      → (distinct : (v : V) → fits name v → NumbersDiffer (claims v)) → fits name now → IsAtMost (tally before) (tally now) → OnlyOwnLeft me.claims (claims before) (claims now)
      → (1 < length s.homes → IsPlain tally claims now)
      → Rule name (stepped s k 0 id ((k, Some now) ∷ []) (given tally claims before now me) gives)
  gives_turn name s r id k me before now at has distinct fit rises left plain_now = let u : W = given tally claims before now me in let wide = r.wide in let count = r.count in let known = r.each_seat id me at in
      let mine = known.has k before has in let inside : k < length r.values = at_lt r.values k before mine.3 in
      let fit_before : fits name before = (r.each_slot k before mine.3).0 in
      let numbers_now : (n : ℕ) → times n (claims now) + times n me.claims ≡ times n (claims before) + times n u.claims = λ n. times-claims_after n (claims before) (claims now) me.claims (distinct before fit_before n) (distinct now fit n) (times_agree name s r id k me before at mine.3 n) left in record {
        values = set r.values k now;
        holder = r.holder;
        wide = length-set s.words k 0 ∙ (r.wide ∙ sym (length-set s.homes k _));
        count = length-set r.values k now ∙ (r.count ∙ sym (length-set s.homes k _));
        each_slot = λ j v there_j. ⊎_elim
            (λ same. let is : now ≡ v = same.1 in let e : k ≡ j = sym same.0 in (
              subst (fits name) is fit,
              inl (
                subst (λ z. get_or (set s.words k 0) z 0 ≡ 0) e (get_or-set_same s.words k 0 0 (omega arith)),
                subst (λ (z : ℕ × V). get_elem? (set s.homes k (some (Some now))) z.0 ≡ some (some (Some z.1))) (λ q. (e q, is q)) (set_here s.homes k (some (Some now)) (omega arith)),
              ),
            ))
            (λ other. let old = r.each_slot j v other.1 in let ne : j ≢ k = other.0 in let still : get_or (set s.words k 0) j 0 ≡ get_or s.words j 0 = get_or-set_other s.words k j 0 0 ne in (
              old.0,
              ⊎_elim (λ home. inl (still ∙ home.0, set_else s.homes k j _ ne ∙ home.1))
                  (λ out. let apart : r.holder j ≢ id = λ q. let one : out.1.0 ≡ me = at_one s.views id out.1.0 me (subst (λ z. get_elem? s.views z ≡ some out.1.0) q out.1.1) at in let a : out.1.0.turn ≡ me.turn = ap (λ (z : W). z.turn) one in let b = out.1.2 in let c : j ≡ k = cc in ne c in
                  inr (still ∙ out.0, (out.1.0, set_else s.views id (r.holder j) u apart ∙ out.1.1, out.1.2)))
                  old.1,
            ))
            (at_set r.values k j now v there_j);
        each_seat = λ i x there_i. ⊎_elim
            (λ same. subst (λ (z : W). Knows name (set s.words k 0) (set r.values k now) r.holder i z) same.1 record {
              named = known.named;
              turn = refl;
              has = λ j v out. cc;
              nothing = λ none. let q = mine.1 in absurd (omega arith);
            })
            (λ other. let knows = r.each_seat i x other.1 in record {
              named = knows.named;
              turn = knows.turn;
              has = λ j v out. let o = knows.has j v out in let ne : j ≢ k = λ q. other.0 (sym o.0 ∙ (ap r.holder q ∙ mine.0)) in (
                o.0,
                o.1,
                get_or-set_other s.words k j 0 0 ne ∙ o.2,
                set_else r.values k j now ne ∙ o.3,
              );
              nothing = knows.nothing;
            })
            (at_set s.views id i u x there_i);
        parts = same_sum (λ (z : W). z.parts) s.views id me u at refl ∙ r.parts;
        tallies = λ i h. let a = sum_set (λ (z : V). get_or (tally z) i 0) r.values k before now mine.3 in let b = sum_set (λ (z : W). get_or z.tally i 0) s.views id me u at in
            let c : get_or u.tally i 0 ≡ get_or me.tally i 0 + (get_or (tally now) i 0 - get_or (tally before) i 0) = six_at (λ j. get_or me.tally j 0 + (get_or (tally now) j 0 - get_or (tally before) j 0)) i h in
            let d = rises i h in let e = r.tallies i h in omega arith;
        numbers = λ n. let a = sum_set (λ (z : V). times n (claims z)) r.values k before now mine.3 in let b = sum_set (λ (z : W). times n z.claims) s.views id me u at in
            let c = numbers_now n in let e = r.numbers n in omega arith;
        marks = λ i j x v there_i there_j. ⊎_elim
            (λ here. subst (λ (z : V). AreAmong x.claims (claims z)) here.1 (⊎_elim
            (λ same. subst (λ (z : W). AreAmong z.claims (claims now)) same.1 (after_among (claims before) (claims now) me.claims))
            (λ other. λ n m e. ⊎_elim (λ stays. stays)
            (λ own. let two = sum_two (λ (z : W). times n z.claims) s.views i id x me other.1 at other.0 in let all = r.numbers n in
            let one = value_has name s r (λ z. times n (claims z)) (plain_times n) k before mine.3 in let few = distinct before fit_before n in
            let a = marked_once n m x.claims e in let b = marked_once n m me.claims own in absurd (omega arith))
            (left n m (r.marks i k x before other.1 mine.3 n m e)))
            (at_set s.views id i u x there_i)))
            (λ elsewhere. let several : 1 < length s.homes = let a = at_lt r.values j v elsewhere.1 in let ne = elsewhere.0 in omega arith in
            λ n m e. ⊎_elim
            (λ same. let h = after_among (claims before) (claims now) me.claims n m (subst (λ (z : W). mark_of n z.claims ≡ Some m) (sym same.1) e) in
            let a = marked_once n m (claims now) h in let b = plain_times n now (plain_now several) in absurd (omega arith))
            (λ other. r.marks i j x v other.1 elsewhere.1 n m e)
            (at_set s.views id i u x there_i))
            (at_set r.values k j now v there_j);
        plain = λ several j v there_j. let wide_enough : 1 < length r.values = let a = length-set r.values k now in omega arith in ⊎_elim
            (λ same. subst (IsPlain tally claims) same.1 (plain_now (omega arith)))
            (λ other. r.plain wide_enough j v other.1)
            (at_set r.values k j now v there_j);
      }

  splits_seat : (name : N) (s : St) (r : Rule name s) (id : ℕ) (me : W) → get_elem? s.views id ≡ some me → 1 < me.parts → me.turn ≡ Free
      → Rule name record { words = s.words; homes = s.homes; views = set s.views id (one_less me) ++ one_part me ∷ [] }
  splits_seat name s r id me at two free = let left : W = one_less me in let right : W = one_part me in let known = r.each_seat id me at in
      let sums : (f : W → ℕ) → sum_by f (set s.views id left ++ right ∷ []) + f me ≡ sum_by f s.views + (f left + f right) = λ f. let a = sum_by-append f (set s.views id left) (right ∷ []) in let b = sum_set f s.views id me left at in let d = sum_alone f right in omega arith in record {
        values = r.values;
        holder = r.holder;
        wide = r.wide;
        count = r.count;
        each_slot = λ j v there_j. let old = r.each_slot j v there_j in (
          old.0,
          ⊎_elim (λ home. inl home)
              (λ out. let apart : r.holder j ≢ id = λ q. let one : out.1.0 ≡ me = at_one s.views id out.1.0 me (subst (λ z. get_elem? s.views z ≡ some out.1.0) q out.1.1) at in let a : out.1.0.turn ≡ me.turn = ap (λ (z : W). z.turn) one in let b = out.1.2 in cc in
              inr (out.0, (out.1.0, at_longer (set s.views id left) (right ∷ []) (r.holder j) out.1.0 (set_else s.views id (r.holder j) left apart ∙ out.1.1), out.1.2)))
              old.1,
        );
        each_seat = λ i x there_i. ⊎_elim
            (λ older. ⊎_elim
            (λ same. subst (λ (z : W). Knows name s.words r.values r.holder i z) same.1 record { named = λ p. known.named (omega arith); turn = known.turn; has = λ j v out. cc; nothing = λ q. absurd (omega arith) })
            (λ other. r.each_seat i x other.1)
            (at_set s.views id i left x older))
            (λ same. subst (λ (z : W). Knows name s.words r.values r.holder i z) same record { named = λ p. known.named (omega arith); turn = refl; has = λ j v out. cc; nothing = λ q. absurd (omega arith) })
            (at_snoc (set s.views id left) right x i there_i);
        parts = let a = sums (λ (z : W). z.parts) in let b = r.parts in omega arith;
        tallies = λ i h. let a = sums (λ (z : W). get_or z.tally i 0) in let b = r.tallies i h in let c : get_or (six (λ _. 0)) i 0 ≡ 0 = six_at (λ _. 0) i h in omega arith;
        numbers = λ n. let a = sums (λ (z : W). times n z.claims) in let b = r.numbers n in omega arith;
        marks = λ i j x v there_i there_j. ⊎_elim
            (λ older. ⊎_elim
            (λ same. subst (λ (z : W). AreAmong z.claims (claims v)) same.1 (r.marks id j me v at there_j))
            (λ other. r.marks i j x v other.1 there_j)
            (at_set s.views id i left x older))
            (λ same. subst (λ (z : W). AreAmong z.claims (claims v)) same (λ n m e. cc))
            (at_snoc (set s.views id left) right x i there_i);
        plain = r.plain;
      }

  joins_seats : (name : N) (s : St) (r : Rule name s) (id other : ℕ) (me u : W) → get_elem? s.views id ≡ some me → 0 < me.parts → other ≢ id → get_elem? (set s.views id (both me u)) other ≡ some u → me.turn ≡ Free → u.turn ≡ Free
      → Rule name record { words = s.words; homes = s.homes; views = set (set s.views id (both me u)) other spent }
  joins_seats name s r id other me u at some_part ne there_u free free_u = let two : W = both me u in let gone : W = spent in let mid : List W = set s.views id two in let known = r.each_seat id me at in
      let at_u : get_elem? s.views other ≡ some u = sym (set_else s.views id other two ne) ∙ there_u in let known_u = r.each_seat other u at_u in
      let sums : (f : W → ℕ) → sum_by f (set mid other gone) + (f u + f me) ≡ sum_by f s.views + (f two + f gone) = λ f. let a = sum_set f mid other u gone there_u in let b = sum_set f s.views id me two at in omega arith in record {
        values = r.values;
        holder = r.holder;
        wide = r.wide;
        count = r.count;
        each_slot = λ j v there_j. let old = r.each_slot j v there_j in (
          old.0,
          ⊎_elim (λ home. inl home)
              (λ out. let b = out.1.2 in let apart : r.holder j ≢ id = λ q. let one : out.1.0 ≡ me = at_one s.views id out.1.0 me (subst (λ z. get_elem? s.views z ≡ some out.1.0) q out.1.1) at in let a : out.1.0.turn ≡ me.turn = ap (λ (z : W). z.turn) one in cc in
              let apart_u : r.holder j ≢ other = λ q. let one : out.1.0 ≡ u = at_one s.views other out.1.0 u (subst (λ z. get_elem? s.views z ≡ some out.1.0) q out.1.1) at_u in let a : out.1.0.turn ≡ u.turn = ap (λ (z : W). z.turn) one in cc in
              inr (out.0, (out.1.0, set_else mid other (r.holder j) gone apart_u ∙ (set_else s.views id (r.holder j) two apart ∙ out.1.1), out.1.2)))
              old.1,
        );
        each_seat = λ i x there_i. ⊎_elim
            (λ same. subst (λ (z : W). Knows name s.words r.values r.holder i z) same.1 record { named = λ p. absurd (omega arith); turn = refl; has = λ j v out. cc; nothing = λ _. (refl, refl) })
            (λ left_over. ⊎_elim
            (λ same. subst (λ (z : W). Knows name s.words r.values r.holder i z) same.1 record {
              named = λ p. known.named some_part;
              turn = known.turn;
              has = λ j v out. cc;
              nothing = λ q. absurd (omega arith);
            })
            (λ old. r.each_seat i x old.1)
            (at_set s.views id i two x left_over.1))
            (at_set mid other i gone x there_i);
        parts = let a = sums (λ (z : W). z.parts) in let b = r.parts in omega arith;
        tallies = λ i h. let a = sums (λ (z : W). get_or z.tally i 0) in let b = r.tallies i h in let c : get_or (six (λ _. 0)) i 0 ≡ 0 = six_at (λ _. 0) i h in
            let d : get_or (six (λ j. get_or me.tally j 0 + get_or u.tally j 0)) i 0 ≡ get_or me.tally i 0 + get_or u.tally i 0 = six_at (λ j. get_or me.tally j 0 + get_or u.tally j 0) i h in omega arith;
        numbers = λ n. let a = sums (λ (z : W). times n z.claims) in let b = r.numbers n in let c = times-append n me.claims u.claims in omega arith;
        marks = λ i j x v there_i there_j. ⊎_elim
            (λ same. subst (λ (z : W). AreAmong z.claims (claims v)) same.1 (λ n m e. cc))
            (λ left_over. ⊎_elim
            (λ same. subst (λ (z : W). AreAmong z.claims (claims v)) same.1 (λ n m e. ⊎_elim (λ h. r.marks id j me v at there_j n m h) (λ h. r.marks other j u v at_u there_j n m h) (mark_in-append n m me.claims u.claims e)))
            (λ old. r.marks i j x v old.1 there_j)
            (at_set s.views id i two x left_over.1))
            (at_set mid other i gone x there_i);
        plain = r.plain;
      }

  -- a seat of a row that is being filled has a turn of that kind
  pub filled_of : (name : N) (s : St) (id : ℕ) (me : W) → Ruled fits tally claims name s → get_elem? s.views id ≡ some me → me.turn ≡ turn_of (seen_turn me.turn) → Rule name s
  filled_of name s id me (inl r) at sits = r
  filled_of name s id me (inr u) at sits = let same = at_alone u.me me id (subst (λ (l : List W). get_elem? l id ≡ some me) u.alone at) in let t : u.me.turn ≡ me.turn = ap (λ (w : W). w.turn) same.1 in
      ⊎_elim (λ h. let e : me.turn ≡ Awaits u.moved = sym t ∙ h.0 in let f : me.turn ≡ Free = sits ∙ ap (λ (z : Turn V). turn_of (seen_turn z)) e in cc)
      (λ h. let e : me.turn ≡ Fills u.moved = sym t ∙ h.0 in let f : me.turn ≡ Free = sits ∙ ap (λ (z : Turn V). turn_of (seen_turn z)) e in cc) u.stage

  -- the word was taken: nothing changes
  unmoved : (name : N) (s : St) (r : Rule name s) (id k : ℕ) (me : Me (Option V) W) → get_elem? s.views id ≡ some me.0 → Rule name (stepped s k (get_or s.words k 0) id me.1 me.0 keeps)
  unmoved name s r id k me at = subst (λ (z : List ℕ × List W). Rule name record { words = z.0; homes = s.homes; views = z.1 })
      (λ q. (sym (set-get_or s.words k 0) q, sym (set_again s.views id me.0 at) q)) r

  pub allows_take : (name : N) (distinct : (v : V) → fits name v → NumbersDiffer (claims v)) (slots id k : ℕ) (me : Me (Option V) W) → me.0.turn ≡ Free → 0 < me.0.parts → k < slots
      → Allows (Ruled fits tally claims name) slots id me k (λ n. either (eqb n 0) 1 n) (Taken fits tally claims (step {S = Option V} slots k 0 1 none) me)
  allows_take name distinct slots id k me free some_part inside s ruled len at _ = let r = filled_of name s id me.0 ruled at (free ∙ sym (ap (λ (z : Turn V). turn_of (seen_turn z)) free)) in let x : ℕ = get_or s.words k 0 in
      let F : ℕ → Type 0 = λ m. (w : W) × (a : Act (Option V)) × Valid s.homes me.1 a × Ruled fits tally claims name (stepped s k m id me.1 w a) × Taken fits tally claims (step {S = Option V} slots k 0 1 none) me x (w, carried_after me.1 a) in
      exchanged x 0 1 F
      (λ hit. let v = there r.values k (let c = r.count in omega arith) in let slot = r.each_slot k v.0 v.1 in let home : AtHome s k v.0 = ⊎_elim (λ h. h) (λ out. let o = out.0 in absurd (omega arith)) slot.1 in (
        with_turn me.0 (Has k v.0),
        takes k (Some v.0),
        home.1,
        inl (takes_turn name s r id k me.0 v.0 at free some_part v.1 hit (omega arith)),
        (
          (λ _. (
            v.0,
            (λ n named. let own : Some n ≡ Some name = sym named ∙ (r.each_seat id me.0 at).named some_part in let is : n ≡ name = cc in subst (λ z. fits z v.0) (sym is) slot.0),
            (tally_agrees name s r id k me.0 v.0 at v.1, r.marks id k me.0 v.0 at v.1, (λ n. let a = times_agree name s r id k me.0 v.0 at v.1 n in let b = distinct v.0 slot.0 n in omega arith)),
            refl,
          )),
          (λ miss. absurd (miss hit)),
        ),
      ))
      (λ miss. (me.0, keeps, tt, inl (unmoved name s r id k me at), ((λ hit. absurd (miss hit)), (λ _. refl))))

  pub won_of : (slots k found : ℕ) (me after : Me (Option V) W) → Taken fits tally claims (step {S = Option V} slots k 0 1 none) me found after → found ≡ 0 → me.1 ≡ [] → Won fits tally claims k me.0 after
  won_of slots k found me after taken is free = let t = taken.0 is in record {
    value = t.0;
    fit = t.1;
    agrees = t.2;
    has = t.3 ∙ (λ q. (with_turn me.0 (Has k t.0), (k, Some t.0) ∷ free q));
  }

  pub allows_give : (name : N) (distinct : (v : V) → fits name v → NumbersDiffer (claims v)) (slots id k : ℕ) (me : Me (Option V) W) (before now : V) → me.0.turn ≡ Has k before → me.1 ≡ (k, Some now) ∷ []
      → fits name now → IsAtMost (tally before) (tally now) → OnlyOwnLeft me.0.claims (claims before) (claims now) → (1 < slots → IsPlain tally claims now)
      → Allows (Ruled fits tally claims name) slots id me k (λ _. 0) (λ _. Given fits tally claims (step {S = Option V} slots k 0 0 none) me 0)
  allows_give name distinct slots id k me before now has carries fit rises left plain s ruled len at _ = let r = filled_of name s id me.0 ruled at (has ∙ sym (ap (λ (z : Turn V). turn_of (seen_turn z)) has)) in (
    given tally claims before now me.0,
    gives,
    tt,
    subst (λ z. Ruled fits tally claims name (stepped s k 0 id z (given tally claims before now me.0) gives)) (sym carries)
        (inl (gives_turn name s r id k me.0 before now at has distinct fit rises left (λ several. plain (omega arith)))),
    (λ before' now' has' carries'.
        let b : before ≡ before' = cc in let n : now ≡ now' = ap (λ (z : List (ℕ × Option V)). said z now) (sym carries ∙ carries') in
        let l : rest me.1 ≡ [] = ap rest carries in λ q. (given tally claims (b q) (n q) me.0, l q)),
  )

  pub splits : (name : N) (id : ℕ) (me : W) → 1 < me.parts → me.turn ≡ Free → Splits (Ruled fits tally claims name) id me (one_less me) (one_part me)
  splits name id me two free s ruled at = let r = filled_of name s id me ruled at (free ∙ sym (ap (λ (z : Turn V). turn_of (seen_turn z)) free)) in inl (splits_seat name s r id me at two free)

  pub joins : (name : N) (id other : ℕ) (me u : W) → 0 < me.parts → me.turn ≡ Free → u.turn ≡ Free → Joins (Ruled fits tally claims name) id me other u (both me u) spent
  joins name id other me u some_part free free_u s ruled at ne there_u = let r = filled_of name s id me ruled at (free ∙ sym (ap (λ (z : Turn V). turn_of (seen_turn z)) free)) in inl (joins_seats name s r id other me u at some_part ne there_u free free_u)
