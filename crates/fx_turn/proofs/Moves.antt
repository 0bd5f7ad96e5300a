-- A row is made empty, its values move in, and when it is closed they come out.
use Rattle.std.proofs.Common.{◌≡◌, ℕ, suc, ◌+◌, ◌<◌, eqb, ◌≢◌, ◌⊎◌, List, [], ◌∷◌, ◌++◌, map, length, get_or, set, sum_by, flat_map, Option, Some, None, replicate, Bool, sym, refl, ap, ◌∙◌, subst, inl, inr, ⊎_elim, arith, length-set, get_or-set_other, get_or-set_same, eq-eqb, ne_eqb}
use Rattle.std.proofs.lemmas.List.{length-replicate, length-map, length-append, append-nil}
use Rattle.std.proofs.lemmas.List.Sums.{sum_by-cons}
use Rattle.std.specs.Prelude.{if◌then◌else◌}
use mathlib.Core.Logic.{dite}
use mathlib.Core.Option.{some, none, some-ne-none}
use native.Mathlib.Decide.{ℕ_discrete}
use prog.Atomic.{either}
use lib.ListN.{get_elem?}
use Rattle.atomic_table.specs.Table.{State, Me, step, takes, gives, stepped, carried_after, rest, Act, Valid, Allows, opening, Final, Seen}
use Rattle.atomic_table.proofs.Lists.{set_here, set_else, at_map, exchanged}
use Rattle.fx_turn.specs.declared.rule.View.{View}
use Rattle.fx_turn.specs.declared.rule.Turn.{Turn}
use Rattle.fx_turn.specs.declared.rule.Turn.TheVariants.{Free, Awaits, Fills}
use Rattle.fx_turn.specs.Tallies.{zeros}
use Rattle.fx_turn.specs.Claims.{times, mark_of, AreAmong}
use Rattle.fx_turn.specs.Seats.{all_parts, IsPlain}
use Rattle.fx_turn.specs.Turning.{seen_turn, turn_of, stage_of, with_turn, Knows, AtHome, Unfilled, Filled, Ruled, Reached, Moved, MayStand}
use Rattle.fx_turn.proofs.Lists.{zeros_at, at_lt, at_one, at_alone, at_replicate, sum_alone, sole, sum_sole, all_at, at_all, at_append, at_end, mapped}
use Rattle.fx_turn.proofs.Tallying.{six_at, six_is}
use Rattle.fx_turn.proofs.CallerLemmas.{times-append, marked_once}
use Rattle.fx_turn.proofs.ClaimsLemmas.{same_claims}
use Rattle.fx_turn.proofs.Keeps.{filled_of}

module _ {N V M : Type 0} (fits : N → V → Type 0) (tally : V → List ℕ) (claims : V → List (ℕ × M)) where
  abbrev W : Type 0
  W = View N V M

  abbrev St : Type 0
  St = State (Option V) W

  abbrev said : List (ℕ × Option V) → V → V
  said [] d = d
  said (x ∷ xs) d = elim x.1 [ Some v ↦ v | None ↦ d ]

  abbrev Rules : N → St → Type 0
  Rules = Ruled fits tally claims

  -- a row of empty slots, whose one seat has yet to move the first value in
  pub opens : (name : N) (n : ℕ) (w : W) → w.name ≡ Some name → w.parts ≡ all_parts → w.turn ≡ Awaits [] → Rules name (opening (replicate n 0) (replicate n None) w)
  opens name n w named whole turn = let long : length (map some (replicate n None)) ≡ n = length-map (replicate n None) (λ (x : Option V). some x) ∙ length-replicate {A = Option V} n None in inr record {
    me = w;
    moved = [];
    from = 0;
    stage = inl (turn, refl);
    alone = refl;
    wide = length-replicate {A = ℕ} n 0 ∙ sym long;
    named = named;
    whole = whole;
    filled = λ k v at. absurd (some-ne-none v (sym at));
    empty = λ k low high. (zeros_at n k, at_map some (replicate n None) k None (at_replicate n k None (omega arith)));
  }

  -- the seat whose view has a turn of filling is the one seat of a row that is not filled yet
  unfilled_of : (name : N) (s : St) (id : ℕ) (me : W) → Rules name s → get_elem? s.views id ≡ some me → (moved : List V) → (me.turn ≡ Awaits moved) ⊎ (me.turn ≡ Fills moved) → (u : Unfilled name s) × (id ≡ 0) × (u.me ≡ me)
  unfilled_of name s id me (inl r) at moved is = let sits = (r.each_seat id me at).turn in ⊎_elim
      (λ h. let f : me.turn ≡ Free = sits ∙ ap (λ (z : Turn V). turn_of (seen_turn z)) h in cc)
      (λ h. let f : me.turn ≡ Free = sits ∙ ap (λ (z : Turn V). turn_of (seen_turn z)) h in cc) is
  unfilled_of name s id me (inr u) at moved is = let same = at_alone u.me me id (subst (λ (l : List W). get_elem? l id ≡ some me) u.alone at) in (u, same.0, same.1)

  set_alone : (s : St) (id : ℕ) (me w : W) → s.views ≡ me ∷ [] → id ≡ 0 → set s.views id w ≡ w ∷ []
  set_alone s id me w alone is = subst (λ (z : List W × ℕ). set z.0 z.1 w ≡ w ∷ []) (λ q. (sym alone q, sym is q)) refl

  pub allows_reach : (name : N) (slots id k : ℕ) (me : Me (Option V) W) (moved : List V) → me.0.turn ≡ Awaits moved → k ≡ length moved → me.1 ≡ [] → k < slots
      → Allows (Rules name) slots id me k (λ n. either (eqb n 0) 1 n) (Reached fits tally claims (step {S = Option V} slots k 0 1 none) me)
  allows_reach name slots id k me moved turn is carries inside s ruled len at _ = let found = unfilled_of name s id me.0 ruled at moved (inl turn) in let u = found.0 in let x : ℕ = get_or s.words k 0 in let w : W = with_turn me.0 (Fills moved) in
      let own : u.me.turn ≡ me.0.turn = ap (λ (z : W). z.turn) found.2 in
      let same : (u.moved ≡ moved) × (u.from ≡ length moved) = ⊎_elim
      (λ h. let m : u.moved ≡ moved = cc in (m, h.1 ∙ ap length m))
      (λ h. absurd (let e : Fills u.moved ≡ Awaits moved = sym h.0 ∙ (own ∙ turn) in cc)) u.stage in
      let next = u.empty k (let a = same.1 in omega arith) (omega arith) in
      let F : ℕ → Type 0 = λ m. (w : W) × (a : Act (Option V)) × Valid s.homes me.1 a × Rules name (stepped s k m id me.1 w a) × Reached fits tally claims (step {S = Option V} slots k 0 1 none) me x (w, carried_after me.1 a) in
      exchanged x 0 1 F
      (λ hit. (
        w,
        takes k None,
        next.1,
        inr record {
          me = w;
          moved = moved;
          from = length moved + 1;
          stage = inr (refl, refl);
          alone = set_alone s id u.me w u.alone found.1;
          wide = length-set s.words k 1 ∙ (u.wide ∙ sym (length-set s.homes k _));
          named = ap (λ (z : W). z.name) (sym found.2) ∙ u.named;
          whole = ap (λ (z : W). z.parts) (sym found.2) ∙ u.whole;
          filled = λ j v at_j. let low = at_lt moved j v at_j in let ne : j ≢ k = λ e. omega arith in let old = u.filled j v (subst (λ (l : List V). get_elem? l j ≡ some v) (sym same.0) at_j) in
              (get_or-set_other s.words k j 1 0 ne ∙ old.0, set_else s.homes k j _ ne ∙ old.1);
          empty = λ j low high. let ne : j ≢ k = λ e. omega arith in let h = length-set s.homes k none in let old = u.empty j (let a = same.1 in omega arith) (omega arith) in
              (get_or-set_other s.words k j 1 0 ne ∙ old.0, set_else s.homes k j _ ne ∙ old.1);
        },
        (λ moved' turn' is' carries'. let m : moved ≡ moved' = cc in λ q. (with_turn me.0 (Fills (m q)), (k, None) ∷ carries q)),
      ))
      (λ miss. absurd (miss next.0))

  times-flat_map : (n : ℕ) (vs : List V) → times n (flat_map claims vs) ≡ sum_by (λ v. times n (claims v)) vs
  times-flat_map n [] = refl
  times-flat_map n (v ∷ vs) = let h = times-flat_map n vs in omega (arith, times-append n (claims v) (flat_map claims vs), sum_by-cons (λ (v : V). times n (claims v)) v vs)

  none_of_plain : (vs : List V) → ((k : ℕ) (v : V) → get_elem? vs k ≡ some v → IsPlain tally claims v) → flat_map claims vs ≡ []
  none_of_plain [] all = refl
  none_of_plain (v ∷ vs) all = ap (λ l. l ++ flat_map claims vs) (all 0 v refl).1 ∙ none_of_plain vs (λ k. all (suc k))

  -- where claims stand, there is one value, and they are its claims
  marks_of : (vs : List V) (k : ℕ) (v : V) → get_elem? vs k ≡ some v → (1 < length vs → (j : ℕ) (x : V) → get_elem? vs j ≡ some x → IsPlain tally claims x) → (n : ℕ) (m : M) → mark_of n (flat_map claims vs) ≡ Some m → mark_of n (claims v) ≡ Some m
  marks_of [] k v at plain n m e = absurd (some-ne-none v (sym at))
  marks_of (x ∷ []) k v at plain n m e = ap (λ (z : V). mark_of n (claims z)) (sym (at_alone x v k at).1) ∙ (ap (mark_of n) (sym (append-nil (claims x))) ∙ e)
  marks_of (x ∷ y ∷ vs) k v at plain n m e = let z = none_of_plain (x ∷ y ∷ vs) (plain (omega arith)) in let f : mark_of {M = M} n [] ≡ Some m = ap (mark_of n) (sym z) ∙ e in cc

  among_all : (vs : List V) (c : List (ℕ × M)) → ((n : ℕ) → times n (flat_map claims vs) ≡ times n c) → ((k : ℕ) (v : V) → get_elem? vs k ≡ some v → AreAmong c (claims v)) → (1 < length vs → (j : ℕ) (x : V) → get_elem? vs j ≡ some x → IsPlain tally claims x) → AreAmong c (flat_map claims vs)
  among_all [] c counts each plain n m e = let a = marked_once n m c e in let b = counts n in absurd (omega arith)
  among_all (x ∷ []) c counts each plain n m e = ap (mark_of n) (append-nil (claims x)) ∙ each 0 x refl n m e
  among_all (x ∷ y ∷ vs) c counts each plain n m e = let z : times n (flat_map claims (x ∷ y ∷ vs)) ≡ 0 = ap (times n) (none_of_plain (x ∷ y ∷ vs) (plain (omega arith))) in let a = marked_once n m c e in let b = counts n in absurd (omega arith)

  -- a row with all values at home, and a seat that has all of it
  stands : (name : N) (s : St) (vs : List V) (w : W) → s.views ≡ w ∷ [] → w.turn ≡ Free → w.name ≡ Some name → w.parts ≡ all_parts → length s.words ≡ length s.homes → length vs ≡ length s.homes
      → ((k : ℕ) (v : V) → get_elem? vs k ≡ some v → AtHome s k v) → MayStand fits tally claims name vs w.tally w.claims → Filled fits tally claims name s
  stands name s vs w alone free named whole wide count home may = let sums : (f : W → ℕ) → sum_by f s.views ≡ f w = λ f. ap (sum_by f) alone ∙ sum_alone f w in
      let one : (id : ℕ) (z : W) → get_elem? s.views id ≡ some z → w ≡ z = λ id z at. (at_alone w z id (subst (λ (l : List W). get_elem? l id ≡ some z) alone at)).1 in record {
        values = vs;
        holder = λ _. 0;
        wide = wide;
        count = count;
        each_slot = λ k v at. (at_all (fits name) vs may.fit k v at, inl (home k v at));
        each_seat = λ id z at. subst (λ (y : W). Knows name s.words vs (λ _. 0) id y) (one id z at) record {
          named = λ _. named;
          turn = free ∙ sym (ap (λ (y : Turn V). turn_of (seen_turn y)) free);
          has = λ k v out. cc;
          nothing = λ none_left. absurd (omega arith);
        };
        parts = sums (λ (z : W). z.parts) ∙ whole;
        tallies = λ i h. let a = sums (λ (z : W). get_or z.tally i 0) in let b : get_or w.tally i 0 ≡ sum_by (λ v. get_or (tally v) i 0) vs = ap (λ (t : List ℕ). get_or t i 0) may.tallies ∙ six_at (λ j. sum_by (λ v. get_or (tally v) j 0) vs) i h in omega arith;
        numbers = λ n. let a = sums (λ (z : W). times n z.claims) in let b = times-flat_map n vs in let c = may.same.counts n in omega arith;
        marks = λ id k z v at_z at_v. subst (λ (y : W). AreAmong y.claims (claims v)) (one id z at_z) (λ n m e. marks_of vs k v at_v (λ several. at_all (IsPlain tally claims) vs (may.plain several)) n m (may.same.marks n ∙ e));
        plain = λ several k v at. at_all (IsPlain tally claims) vs (may.plain several) k v at;
      }

  pub allows_move : (name : N) (slots id k : ℕ) (me : Me (Option V) W) (moved : List V) (v : V) → me.0.turn ≡ Fills moved → k ≡ length moved → me.1 ≡ (k, Some v) ∷ [] → k < slots
      → (length moved + 1 ≡ slots → MayStand fits tally claims name (moved ++ v ∷ []) me.0.tally me.0.claims)
      → Allows (Rules name) slots id me k (λ _. 0) (λ _. Moved fits tally claims (step {S = Option V} slots k 0 0 none) me 0)
  allows_move name slots id k me moved v turn is carries inside may s ruled len at _ = let found = unfilled_of name s id me.0 ruled at moved (inr turn) in let u = found.0 in let w : W = with_turn me.0 (stage_of slots (moved ++ v ∷ [])) in
      let own : u.me.turn ≡ me.0.turn = ap (λ (z : W). z.turn) found.2 in
      let same : (u.moved ≡ moved) × (u.from ≡ length moved + 1) = ⊎_elim
      (λ h. absurd (let e : Awaits u.moved ≡ Fills moved = sym h.0 ∙ (own ∙ turn) in cc))
      (λ h. let m : u.moved ≡ moved = cc in (m, h.1 ∙ ap (λ (l : List V). length l + 1) m)) u.stage in
      let after : St = stepped s k 0 id ((k, Some v) ∷ []) w gives in
      let long : length (moved ++ v ∷ []) ≡ length moved + 1 = length-append moved (v ∷ []) in
      let wide' : length after.words ≡ length after.homes = length-set s.words k 0 ∙ (u.wide ∙ sym (length-set s.homes k _)) in
      let named' : w.name ≡ Some name = ap (λ (z : W). z.name) (sym found.2) ∙ u.named in
      let whole' : w.parts ≡ all_parts = ap (λ (z : W). z.parts) (sym found.2) ∙ u.whole in
      let alone' : after.views ≡ w ∷ [] = set_alone s id u.me w u.alone found.1 in
      let filled' : (j : ℕ) (x : V) → get_elem? (moved ++ v ∷ []) j ≡ some x → AtHome after j x = λ j x at_j. dite (ℕ_discrete j k)
      (λ e. let here : v ≡ x = at_end moved v x (subst (λ i. get_elem? (moved ++ v ∷ []) i ≡ some x) (e ∙ is) at_j) in
      subst (λ (z : ℕ × V). AtHome after z.0 z.1) (λ q. (sym e q, here q)) (get_or-set_same s.words k 0 0 (let a = u.wide in omega arith), set_here s.homes k (some (Some v)) (omega arith)))
      (λ ne. let old = u.filled j x (subst (λ (l : List V). get_elem? l j ≡ some x) (sym same.0) (at_append moved v x j at_j (λ e. ne (e ∙ sym is)))) in
      (get_or-set_other s.words k j 0 0 ne ∙ old.0, set_else s.homes k j _ ne ∙ old.1)) in
      let ruled' : Rules name after = dite (ℕ_discrete (length (moved ++ v ∷ [])) slots)
      (λ last. inl (stands name after (moved ++ v ∷ []) w alone' (ap (λ (b : Bool). if b then Free else Awaits (moved ++ v ∷ [])) (eq-eqb _ _ last)) named' whole' wide' (let a = length-set s.homes k (some (Some v)) in omega arith) filled' (may (omega arith))))
      (λ more. inr record {
        me = w;
        moved = moved ++ v ∷ [];
        from = length (moved ++ v ∷ []);
        stage = inl (ap (λ (b : Bool). if b then Free else Awaits (moved ++ v ∷ [])) (ne_eqb _ _ more), refl);
        alone = alone';
        wide = wide';
        named = named';
        whole = whole';
        filled = filled';
        empty = λ j low high. let ne : j ≢ k = λ e. omega arith in let h = length-set s.homes k (some (Some v)) in let old = u.empty j (let a = same.1 in omega arith) (omega arith) in
            (get_or-set_other s.words k j 0 0 ne ∙ old.0, set_else s.homes k j _ ne ∙ old.1);
      }) in (
        w,
        gives,
        tt,
        subst (λ z. Rules name (stepped s k 0 id z w gives)) (sym carries) ruled',
        (λ moved' v' turn' is' carries'. let m : moved ≡ moved' = cc in let x : v ≡ v' = ap (λ (z : List (ℕ × Option V)). said z v) (sym carries ∙ carries') in let l : rest me.1 ≡ [] = ap rest carries in
            λ q. (with_turn me.0 (stage_of slots (m q ++ x q ∷ [])), l q)),
      )

  -- what comes out of a row when the one seat that is left closes it
  pub ends : (name : N) (id : ℕ) (me : W) (ws : List ℕ) (xs : List (Option V)) → length me.tally ≡ 6 → Final (Seen (Rules name) id me) ws xs → me.parts ≡ all_parts → me.turn ≡ Free
      → (vs : List V) × (xs ≡ map Some vs) × MayStand fits tally claims name vs me.tally me.claims
  ends name id me ws xs six_long final whole free = let s : St = final.0 in let at = final.1.1 in let r : Filled fits tally claims name s = filled_of fits tally claims name s id me final.1.0 at (free ∙ sym (ap (λ (y : Turn V). turn_of (seen_turn y)) free)) in
      let none_else : (j : ℕ) (b : W) → get_elem? s.views j ≡ some b → j ≢ id → b.parts ≡ 0 = sole (λ (z : W). z.parts) s.views id me at (r.parts ∙ sym whole) in
      let only : (f : W → ℕ) → ((b : W) → (b.tally ≡ zeros) × (b.claims ≡ []) → f b ≡ 0) → sum_by f s.views ≡ f me = λ f empty. sum_sole f s.views id me at (λ j b there_b ne. empty b ((r.each_seat j b there_b).nothing (none_else j b there_b ne))) in
      let counts : (n : ℕ) → times n (flat_map claims r.values) ≡ times n me.claims = λ n. times-flat_map n r.values ∙ (r.numbers n ∙ only (λ (z : W). times n z.claims) (λ b nothing. ap (times n) nothing.1)) in (
        r.values,
        mapped Some xs r.values (sym (r.count ∙ final.3)) (λ k v there_v. ⊎_elim (λ home. final.4 k (Some v) home.1)
            (λ out. let o = out.1 in let knows = r.each_seat (r.holder k) o.0 o.1 in let p = (knows.has k v o.2).1 in absurd (dite (ℕ_discrete (r.holder k) id)
            (λ e. let one : o.0 ≡ me = at_one s.views id o.0 me (subst (λ z. get_elem? s.views z ≡ some o.0) e o.1) at in let a : o.0.turn ≡ me.turn = ap (λ (z : W). z.turn) one in let b = o.2 in cc)
            (λ ne. let z = none_else (r.holder k) o.0 o.1 ne in omega arith)))
            (r.each_slot k v there_v).1),
        record {
          fit = all_at (fits name) r.values (λ k v there_v. (r.each_slot k v there_v).0);
          tallies = six_is me.tally (λ i. sum_by (λ v. get_or (tally v) i 0) r.values) six_long (λ i h. sym (r.tallies i h ∙ only (λ (z : W). get_or z.tally i 0) (λ b nothing. ap (λ (z : List ℕ). get_or z i 0) nothing.0 ∙ six_at (λ _. 0) i h)));
          same = same_claims (flat_map claims r.values) me.claims (among_all r.values me.claims counts (λ k v there_v. r.marks id k me v at there_v) r.plain) counts;
          plain = λ several. all_at (IsPlain tally claims) r.values (r.plain several);
        },
      )

module _ {V : Type 0} where
  -- where values are left to come, the row isn't filled
  pub stage_more : (slots : ℕ) (moved : List V) → length moved ≢ slots → stage_of slots moved ≡ Awaits moved
  stage_more slots moved more = ap (λ (b : Bool). if b then Free else Awaits moved) (ne_eqb _ _ more)
