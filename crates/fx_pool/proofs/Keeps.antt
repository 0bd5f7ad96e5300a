-- Each step on a draw keeps its rule.
use Rattle.std.proofs.Common.{◌≡◌, ℕ, ◌+◌, ◌%◌, ◌^◌, ◌<◌, ◌≤◌, ◌==◌, cond, min, List, [], ◌∷◌, ◌++◌, length, get_or, set, sum_by, sym, refl, ap, ◌∙◌, subst, ⊎_elim, arith, length-set, length-append, get_or-set_same, lt_of_not-le}
use Rattle.std.proofs.lemmas.Bool.Decides.{nat_tests}
use Rattle.std.proofs.lemmas.List.Sums.{sum_by-append, sum_by_push}
use mathlib.Core.Logic.{dite}
use mathlib.Core.Option.{some, none}
use native.Mathlib.Decide.{dec_le}
use lib.ListN.{get_elem?}
use lib.Seq.{set-get_or}
use Rattle.atomic_table.specs.Table.{State, Me, Act, step, keeps, takes, gives, put_back, stepped, homes_after, carried_after, Valid, Allows, Splits, Joins, opening}
use Rattle.atomic_table.specs.Seated.{TableId}
use Rattle.atomic_table.proofs.Lists.{at_set, set_else, set_again, at_snoc, at_map}
use Rattle.fx_pool.specs.declared.rule.Hand.{Hand}
use Rattle.fx_pool.specs.Draws.{DrawState, times, once_below}
use Rattle.fx_pool.specs.Drawing.{first_hand, drew, ended, one_less, one_part, both, spent, Knows, Ruled, Drawn, TakenOut, ReadBack, Learnt, draw_of}
use Rattle.fx_pool.proofs.Lists.{there, at_alone, sum_set, sum_at, sum_alone, sum_le, sole, sum_sole}

one_more : (x w count : ℕ) → w < count → once_below x (min (w + 1) count) ≡ once_below x (min w count) + cond (w == x) 1 0
one_more x w count h = grind (arith, nat_tests)

past_it : (x w count : ℕ) → count ≤ w → once_below x (min (w + 1) count) ≡ once_below x (min w count)
past_it x w count h = grind (arith, nat_tests)

wraps : (n : ℕ) → n + 1 < 2 ^ 64 → (n + 1) % 2 ^ 64 ≡ n + 1
wraps n h = grind arith

times-none : (x : ℕ) → times x [] ≡ 0
times-none x = refl

module _ {S : Type 0} (count : ℕ) (items : List S) where
  abbrev St : Type 0
  St = State S (Hand S)

  abbrev Rule : St → Type 0
  Rule = Ruled count items

  known_set : (views : List (Hand S)) (id : ℕ) (u : Hand S) → ((i : ℕ) (h : Hand S) → get_elem? views i ≡ some h → Knows count items h) → Knows count items u → (i : ℕ) (h : Hand S) → get_elem? (set views id u) i ≡ some h → Knows count items h
  known_set views id u all knows i h at = ⊎_elim (λ same. subst (Knows count items) same.1 knows) (λ other. all i h other.1) (at_set views id i u h at)

  -- what of the homes has to hold after a step, by its act
  abbrev Home : ℕ → St → List (ℕ × S) → Act S → Type 0
  Home w s carried a = (k : ℕ) (x : S) → w ≤ k → get_elem? items k ≡ some x → get_elem? (homes_after s.homes carried a) k ≡ some (some x)

  draws_one : (s : St) (r : Rule s) (id : ℕ) (me : Me S (Hand S)) (a : Act S) → get_elem? s.views id ≡ some me.0 → get_or s.words 0 0 < count → 0 < me.0.parts → Home (get_or s.words 0 0 + 1) s me.1 a
      → Rule (stepped s 0 (get_or s.words 0 0 + 1) id me.1 (drew me.0 (get_or s.words 0 0)) a)
  draws_one s r id me a at below some_part home = let n : ℕ = get_or s.words 0 0 in let one = r.one in let now : get_or (set s.words 0 (n + 1)) 0 0 ≡ n + 1 = get_or-set_same s.words 0 (n + 1) 0 (omega arith) in
      let w : Hand S = drew me.0 n in let known = r.each_seat id me.0 at in record {
        one = length-set s.words 0 (n + 1) ∙ r.one;
        parts = let t = sum_set (λ (h : Hand S). h.parts) s.views id me.0 w at in let p = r.parts in omega arith;
        each_seat = known_set s.views id w r.each_seat record { count_is = known.count_is; items_are = known.items_are; few = known.few; nothing = λ z. absurd (omega arith) };
        once = λ x. let t = sum_set (λ (h : Hand S). times x h.drawn) s.views id me.0 w at in let p = r.once x in let m = one_more x n count below in
            let b : times x (me.0.drawn ++ n ∷ []) ≡ times x me.0.drawn + cond (n == x) 1 0 = sum_by_push (λ (y : ℕ). cond {A = ℕ} (y == x) 1 0) me.0.drawn n in rw now (omega arith);
        most = let t = sum_set (λ (h : Hand S). length h.past) s.views id me.0 w at in rw now (omega arith);
        last = λ h. let t = sum_set (λ (h : Hand S). length h.past) s.views id me.0 w at in let p = r.last (omega arith) in rw now (omega arith);
        home = λ k x after. home k x (subst (λ z. z ≤ k) now after);
      }

  draws_none : (s : St) (r : Rule s) (id : ℕ) (me : Me S (Hand S)) → get_elem? s.views id ≡ some me.0 → count ≤ get_or s.words 0 0 → length me.0.past < me.0.parts
      → Rule (stepped s 0 (get_or s.words 0 0 + 1) id me.1 (ended me.0 (get_or s.words 0 0)) keeps)
  draws_none s r id me at over room = let n : ℕ = get_or s.words 0 0 in let one = r.one in let now : get_or (set s.words 0 (n + 1)) 0 0 ≡ n + 1 = get_or-set_same s.words 0 (n + 1) 0 (omega arith) in
      let w : Hand S = ended me.0 n in let known = r.each_seat id me.0 at in let longer : length w.past ≡ length me.0.past + 1 = length-append me.0.past (n ∷ []) in record {
        one = length-set s.words 0 (n + 1) ∙ r.one;
        parts = let t = sum_set (λ (h : Hand S). h.parts) s.views id me.0 w at in let p = r.parts in omega arith;
        each_seat = known_set s.views id w r.each_seat record { count_is = known.count_is; items_are = known.items_are; few = omega arith; nothing = known.nothing };
        once = λ x. let t = sum_set (λ (h : Hand S). times x h.drawn) s.views id me.0 w at in let p = r.once x in let m = past_it x n count over in rw now (omega arith);
        most = let t = sum_set (λ (h : Hand S). length h.past) s.views id me.0 w at in let p = r.most in rw now (omega arith);
        last = λ h. rw now (omega arith);
        home = λ k x after is. let b : n + 1 ≤ k = subst (λ z. z ≤ k) now after in r.home k x (omega arith) is;
      }

  -- a draw, with the act that it may do where a number is left
  allows_some : (slots id : ℕ) (me : Me S (Hand S)) (then : ℕ → Me S (Hand S) → Type 0) → count ≤ 2 ^ 32 → 0 < me.0.parts → me.0.past ≡ []
      → ((s : St) (r : Rule s) → get_elem? s.views id ≡ some me.0 → get_or s.words 0 0 < count → (a : Act S) × Home (get_or s.words 0 0 + 1) s me.1 a × Valid s.homes me.1 a × then (get_or s.words 0 0) (drew me.0 (get_or s.words 0 0), carried_after me.1 a))
      → ((n : ℕ) → count ≤ n → then n (ended me.0 n, me.1))
      → Allows Rule slots id me 0 (λ n. (n + 1) % 2 ^ 64) then
  allows_some slots id me then few some_part fresh hit miss s r len at _ = let n : ℕ = get_or s.words 0 0 in let most = r.most in let parts = r.parts in let le = sum_le (λ (h : Hand S). length h.past) (λ h. h.parts) s.views (λ i h there. (r.each_seat i h there).few) in
      let w : (n + 1) % 2 ^ 64 ≡ n + 1 = wraps n (omega arith) in let none_yet : length me.0.past ≡ 0 = ap length fresh in dite (dec_le count n)
      (λ over. (ended me.0 n, keeps, tt, subst (λ z. Rule (stepped s 0 z id me.1 (ended me.0 n) keeps)) (sym w) (draws_none s r id me at over (omega arith)), miss n over))
      (λ not_over. let below : n < count = lt_of_not-le not_over in let h = hit s r at below in
      (drew me.0 n, h.0, h.2, subst (λ z. Rule (stepped s 0 z id me.1 (drew me.0 n) h.0)) (sym w) (draws_one s r id me h.0 at below some_part h.1), h.3))

  pub allows_draw : (slots id : ℕ) (me : Me S (Hand S)) → count ≤ 2 ^ 32 → 0 < me.0.parts → me.0.past ≡ [] → me.0.count ≡ count
      → Allows Rule slots id me 0 (λ n. (n + 1) % 2 ^ 64) (Drawn (step {S = S} slots 0 1 0 none) me)
  allows_draw slots id me few some_part fresh own = allows_some slots id me (Drawn (step {S = S} slots 0 1 0 none) me) few some_part fresh
      (λ s r at below. (keeps, (λ k x after is. r.home k x (omega arith) is), tt, ((λ _. refl), (λ over. absurd (omega arith)))))
      (λ n over. ((λ below. absurd (omega arith)), (λ _. refl)))

  pub allows_take : (slots id : ℕ) (me : Me S (Hand S)) → count ≤ 2 ^ 32 → 0 < me.0.parts → me.0.past ≡ [] → me.0.count ≡ count → me.0.items ≡ items → length items ≡ count
      → Allows Rule slots id me 0 (λ n. (n + 1) % 2 ^ 64) (TakenOut (step {S = S} slots 0 1 0 none) me)
  allows_take slots id me few some_part fresh own told long = allows_some slots id me (TakenOut (step {S = S} slots 0 1 0 none) me) few some_part fresh
      (λ s r at below. let n : ℕ = get_or s.words 0 0 in let x = there items n (omega arith) in (
        takes n x.0,
        (λ k y after is. set_else s.homes n k none (λ e. omega arith) ∙ r.home k y (omega arith) is),
        r.home n x.0 (omega arith) x.1,
        ((λ _. (x.0, subst (λ (l : List S). get_elem? l n ≡ some x.0) (sym told) x.1, refl)), (λ over. absurd (omega arith))),
      ))
      (λ n over. ((λ below. absurd (omega arith)), (λ _. refl)))

  drawn_below : (k w : ℕ) → 1 ≤ once_below k (min w count) → k < w
  drawn_below k w h = grind (arith, nat_tests)

  -- the slot of a number that was drawn may hold anything
  puts_back : (s : St) (r : Rule s) (id k : ℕ) (x : S) (me : Me S (Hand S)) → get_elem? s.views id ≡ some me.0 → me.1 ≡ (k, x) ∷ [] → 1 ≤ times k me.0.drawn → Rule record { words = s.words; homes = put_back s.homes me.1; views = s.views }
  puts_back s r id k x me at carries mine = let a = sum_at (λ (h : Hand S). times k h.drawn) s.views id me.0 at in let b = r.once k in let low = drawn_below k (get_or s.words 0 0) (omega arith) in record {
    one = r.one;
    parts = r.parts;
    each_seat = r.each_seat;
    once = r.once;
    most = r.most;
    last = r.last;
    home = λ j y after is. subst (λ (l : List (ℕ × S)). get_elem? (put_back s.homes l) j ≡ some (some y)) (sym carries) (set_else s.homes k j (some x) (λ e. omega arith) ∙ r.home j y after is);
  }

  pub allows_put_back : (slots id k : ℕ) (x : S) (me : Me S (Hand S)) → me.1 ≡ (k, x) ∷ [] → 1 ≤ times k me.0.drawn → Allows Rule slots id me 0 (λ n. n) (ReadBack (step {S = S} slots 0 0 0 none) me)
  allows_put_back slots id k x me carries mine s r len at _ = (
    me.0,
    gives,
    tt,
    subst (λ (z : List ℕ × List (Hand S)). Rule record { words = z.0; homes = put_back s.homes me.1; views = z.1 }) (λ q. (sym (set-get_or s.words 0 0) q, sym (set_again s.views id me.0 at) q)) (puts_back s r id k x me at carries mine),
    refl,
  )

  pub splits : (id : ℕ) (me : Hand S) → 1 < me.parts → me.past ≡ [] → Splits Rule id me (one_less me) (one_part me)
  splits id me two fresh s r at = let left : Hand S = one_less me in let right : Hand S = one_part me in let known = r.each_seat id me at in let none_yet : length me.past ≡ 0 = ap length fresh in
      let sums : (f : Hand S → ℕ) → sum_by f (set s.views id left ++ right ∷ []) + f me ≡ sum_by f s.views + (f left + f right) = λ f. let a = sum_by-append f (set s.views id left) (right ∷ []) in let b = sum_set f s.views id me left at in let d = sum_alone f right in omega arith in record {
        one = r.one;
        parts = let a = sums (λ h. h.parts) in let b = r.parts in omega arith;
        each_seat = λ i h there_h. ⊎_elim
            (λ older. known_set s.views id left r.each_seat record { count_is = λ _. known.count_is (omega arith); items_are = λ _. known.items_are (omega arith); few = omega arith; nothing = λ z. absurd (omega arith) } i h older)
            (λ same. subst (Knows count items) same record { count_is = λ _. known.count_is (omega arith); items_are = λ _. known.items_are (omega arith); few = omega arith; nothing = λ _. refl })
            (at_snoc (set s.views id left) right h i there_h);
        once = λ x. let a = sums (λ h. times x h.drawn) in let b = r.once x in let z = times-none x in omega arith;
        most = let a = sums (λ h. length h.past) in let b = r.most in omega arith;
        last = λ h. let a = sums (λ h. length h.past) in r.last (omega arith);
        home = r.home;
      }

  pub joins : (id other : ℕ) (me u : Hand S) → 0 < me.parts → Joins Rule id me other u (both me u) spent
  joins id other me u some_part s r at ne there_u = let all : Hand S = both me u in let mid : List (Hand S) = set s.views id all in let known = r.each_seat id me at in let at_u : get_elem? s.views other ≡ some u = sym (set_else s.views id other all ne) ∙ there_u in let known_u = r.each_seat other u at_u in
      let sums : (f : Hand S → ℕ) → sum_by f (set mid other spent) + (f u + f me) ≡ sum_by f s.views + (f all + f spent) = λ f. let a = sum_set f mid other u spent there_u in let b = sum_set f s.views id me all at in omega arith in
      let long : length (me.past ++ u.past) ≡ length me.past + length u.past = length-append me.past u.past in record {
        one = r.one;
        parts = let a = sums (λ h. h.parts) in let b = r.parts in omega arith;
        each_seat = known_set mid other spent
            (known_set s.views id all r.each_seat record { count_is = λ _. known.count_is some_part; items_are = λ _. known.items_are some_part; few = (let a = known.few in let b = known_u.few in omega arith); nothing = λ z. absurd (omega arith) })
            record { count_is = λ z. absurd (omega arith); items_are = λ z. absurd (omega arith); few = omega arith; nothing = λ _. refl };
        once = λ x. let a = sums (λ h. times x h.drawn) in let b = r.once x in let c : times x (me.drawn ++ u.drawn) ≡ times x me.drawn + times x u.drawn = sum_by-append (λ (y : ℕ). cond {A = ℕ} (y == x) 1 0) me.drawn u.drawn in let z = times-none x in omega arith;
        most = let a = sums (λ h. length h.past) in let b = r.most in omega arith;
        last = λ h. let a = sums (λ h. length h.past) in r.last (omega arith);
        home = r.home;
      }

  unmoved : (s : St) (r : Rule s) (id : ℕ) (me : Me S (Hand S)) → get_elem? s.views id ≡ some me.0 → Rule (stepped s 0 (get_or s.words 0 0) id me.1 me.0 keeps)
  unmoved s r id me at = subst (λ (z : List ℕ × List (Hand S)). Rule record { words = z.0; homes = s.homes; views = z.1 }) (λ q. (sym (set-get_or s.words 0 0) q, sym (set_again s.views id me.0 at) q)) r

  pub allows_learn : (slots id : ℕ) (me : Me S (Hand S)) → 0 < me.0.parts → Allows Rule slots id me 0 (λ n. n) (Learnt (step {S = S} slots 0 0 0 none) me)
  allows_learn slots id me some_part s r len at _ = (
    me.0,
    keeps,
    tt,
    unmoved s r id me at,
    (
      refl,
      λ all. let none_else = sole (λ (h : Hand S). h.parts) s.views id me.0 at (r.parts ∙ sym all) in
          let own = (r.each_seat id me.0 at).count_is some_part in let t = sum_at (λ (h : Hand S). length h.past) s.views id me.0 at in record {
            next = min (get_or s.words 0 0) count;
            within = omega arith;
            each_once = λ x. sym (sum_sole (λ (h : Hand S). times x h.drawn) s.views id me.0 at (λ j b there_b ne. ap (times x) ((r.each_seat j b there_b).nothing (none_else j b there_b ne)))) ∙ r.once x;
            ended = λ some_none. let over = r.last (omega arith) in omega arith;
          },
    ),
  )

  pub opens : (ts : List S) → items ≡ ts → Rule (opening (0 ∷ []) ts (first_hand count items))
  opens ts are = let w : Hand S = first_hand count items in record {
    one = refl;
    parts = sum_alone (λ (h : Hand S). h.parts) w;
    each_seat = λ id h at. subst (Knows count items) (at_alone w h id at).1 record { count_is = λ _. refl; items_are = λ _. refl; few = omega arith; nothing = λ z. absurd (omega arith) };
    once = λ x. sum_alone (λ (h : Hand S). times x h.drawn) w ∙ (times-none x ∙ sym (starts x count));
    most = omega arith;
    last = λ h. let t = sum_alone (λ (h : Hand S). length h.past) w in absurd (omega arith);
    home = λ k x after is. at_map some ts k x (subst (λ (z : List S). get_elem? z k ≡ some x) are is);
  }
    where
      starts : (x n : ℕ) → once_below x (min 0 n) ≡ 0
      starts x n = grind (arith, nat_tests)

-- the number that was drawn last is among those drawn
pub drawn_last : (ns : List ℕ) (n : ℕ) → 1 ≤ times n (ns ++ n ∷ [])
drawn_last ns n = let t : times n (ns ++ n ∷ []) ≡ times n ns + cond (n == n) 1 0 = sum_by_push (λ (y : ℕ). cond {A = ℕ} (y == n) 1 0) ns n in grind (arith, nat_tests)

-- a draw's stamp is its table
abbrev table_of : {S : Type 0} → DrawState S → TableId → TableId
table_of d z = elim d.stamp [
  | [] ↦ z
  | words ∷ s1 ↦ elim s1 [
    | [] ↦ z
    | slots ∷ s2 ↦ elim s2 [
      | [] ↦ z
      | views ∷ s3 ↦ elim s3 [
        | [] ↦ z
        | atom ∷ s4 ↦ elim s4 [
          | [] ↦ z
          | block ∷ s5 ↦ elim s5 [ [] ↦ z | offset ∷ names ↦ record { words = words; slots = slots; views_name = views; atom = atom; block = block; offset = offset; slot_names = names } ]
        ]
      ]
    ]
  ]
]

pub same_table : {S : Type 0} (z y : TableId) (m n : ℕ) (xs ys : List S) → draw_of z m xs ≡ draw_of y n ys → z ≡ y
same_table {S} z y m n xs ys e = ap (λ (d : DrawState S). table_of d z) e
