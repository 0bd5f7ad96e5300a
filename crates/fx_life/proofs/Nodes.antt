-- What comes to one node, from its phase on: an instance is created, begins and ends sequences of renders, and is
-- destroyed.
use Rattle.std.proofs.Common.{◌≡◌, ◌≢◌, ℕ, suc, ◌==◌, true, false, cond, List, [], ◌∷◌, ◌++◌, replicate, All, Option, Some, None, Contains, sym, refl, ap, ◌∙◌, subst, append_assoc, eq-eqb}
use Rattle.std.proofs.lemmas.List.Elements.{All-cons, All-nil}
use borrow.Author.Tests.{eqb-true}
use Rattle.fx_effect.specs.declared.action.Context.{Context}
use Rattle.fx_life.specs.Plugin.{without}
use Rattle.fx_life.specs.Course.{Phase, Idle, Sequence, Action, Load, Describe, DescribeInContext, Create, Begin, Render, End, Destroy, Unload, State, Described, Unloaded, with_phase, IsCourse}
use Rattle.fx_life.specs.Life.{is_of, actions_of, joined, IsSequence, IsInstance, AreInstances}
use Rattle.fx_life.proofs.Phases.{phase_of, present, absent, changed, unchanged, added, added_other, removed, removed_other}

-- the actions are those of the node from this phase on, until no instance is left
abbrev Follows : ℕ → Option Phase → List Action → Type 0
Follows node None [] = Unit {0}
Follows node None (Create n c ∷ actions) = (n ≡ node) × Follows node (Some Idle) actions
Follows node (Some Idle) (Begin n first last ∷ actions) = (n ≡ node) × Follows node (Some (Sequence first last)) actions
Follows node (Some Idle) (Destroy n ∷ actions) = (n ≡ node) × Follows node None actions
Follows node (Some (Sequence first last)) (Render n ∷ actions) =
    (n ≡ node) × Follows node (Some (Sequence first last)) actions
Follows node (Some (Sequence first last)) (End n f l ∷ actions) =
    (n ≡ node) × (f ≡ first) × (l ≡ last) × Follows node (Some Idle) actions
Follows node phase actions = ⊥

-- ---- from a course to one node's actions

-- an action is the node's, or it is passed over
head_or_tail : (node : ℕ) (phase : Option Phase) (action : Action) (actions : List Action)
    → (is_of node action ≡ true → Follows node phase (action ∷ actions_of node actions))
    → (is_of node action ≡ false → Follows node phase (actions_of node actions))
    → Follows node phase (actions_of node (action ∷ actions))
head_or_tail node phase action actions same other =
    (elim (is_of node action) as (λ b. is_of node action ≡ b → Follows node phase
    (cond b (action ∷ actions_of node actions) (actions_of node actions))) [
      | true ↦ same
      | false ↦ other
    ]) refl

differ : (n node : ℕ) → (n == node) ≡ false → node ≢ n
differ n node other same = let yes : (n == node) ≡ true = eq-eqb n node (sym same) in cc

-- the courses of a described plug-in
abbrev pub Uses : List Context → List ℕ → (ℕ → Phase) → List Action → Type 0
Uses contexts live phases actions = IsCourse (Described contexts live phases) actions Unloaded

-- a course goes on from the state that an action left
pub onward : (actions : List Action) (s t : State) → s ≡ t → IsCourse s actions Unloaded → IsCourse t actions Unloaded
onward actions s t is rest = subst (λ u. IsCourse u actions Unloaded) is rest

pub finished : (actions : List Action) → IsCourse Unloaded actions Unloaded → actions ≡ []
finished [] rest = refl
finished (action ∷ actions) rest = absurd rest.1

-- from one phase to another by the node's own action
module _ (node : ℕ) where
  moved : (p q : Option Phase) (actions : List Action) → p ≡ q → Follows node p actions → Follows node q actions
  moved p q actions is rest = subst (λ r. Follows node r actions) is rest

  follows : (actions : List Action) (contexts : List Context) (live : List ℕ) (phases : ℕ → Phase)
      → Uses contexts live phases actions → Follows node (phase_of live phases node) (actions_of node actions)
  follows [] contexts live phases uses = cc
  follows (Load ∷ actions) contexts live phases uses = absurd uses.1
  follows (Describe ∷ actions) contexts live phases uses = absurd uses.1
  follows (DescribeInContext c ∷ actions) contexts live phases uses =
      follows actions (contexts ++ c ∷ []) live phases (onward actions _ _ uses.1.1 uses.2)
  follows (Create n c ∷ actions) contexts live phases uses =
      let rest =
      follows actions contexts (live ++ n ∷ []) (with_phase phases n Idle) (onward actions _ _ uses.1.2 uses.2) in
      head_or_tail node _ (Create n c) actions
      (λ same. let is : n ≡ node = eqb-true n node same in
      moved None _ (Create n c ∷ actions_of node actions)
      (sym (absent live phases node (λ there. uses.1.1 (subst (Contains live) (sym is) there)))) (
        is,
        moved _ (Some Idle) (actions_of node actions)
            (subst (λ m. phase_of (live ++ n ∷ []) (with_phase phases n Idle) m ≡ Some Idle) is (added live phases n))
            rest,
      ))
      (λ other. moved _ _ (actions_of node actions) (added_other live phases n node (differ n node other)) rest)
  follows (Begin n first last ∷ actions) contexts live phases uses =
      let rest =
      follows actions contexts live (with_phase phases n (Sequence first last))
      (onward actions _ _ uses.1.1 uses.2) in
      head_or_tail node _ (Begin n first last) actions
      (λ same. let is : n ≡ node = eqb-true n node same in
      moved (Some Idle) _ (Begin n first last ∷ actions_of node actions)
      (sym (subst (λ m. phase_of live phases m ≡ Some Idle) is (present live phases n Idle uses.1.0))) (
        is,
        moved _ (Some (Sequence first last)) (actions_of node actions)
            (subst (λ m. phase_of live (with_phase phases n (Sequence first last)) m ≡ Some (Sequence first last)) is
            (changed live phases n (Sequence first last) uses.1.0.0)) rest,
      ))
      (λ other. moved _ _ (actions_of node actions)
      (unchanged live phases n node (Sequence first last) (differ n node other)) rest)
  follows (Render n ∷ actions) contexts live phases uses =
      let rest = follows actions contexts live phases (onward actions _ _ uses.1.1 uses.2) in
      let first = uses.1.0.0 in
      let last = uses.1.0.1 in
      head_or_tail node _ (Render n) actions
      (λ same. let is : n ≡ node = eqb-true n node same in
      let now : phase_of live phases node ≡ Some (Sequence first last) =
      subst (λ m. phase_of live phases m ≡ Some (Sequence first last)) is
      (present live phases n (Sequence first last) uses.1.0.2) in
      moved (Some (Sequence first last)) _ (Render n ∷ actions_of node actions) (sym now)
      (is, moved _ (Some (Sequence first last)) (actions_of node actions) now rest))
      (λ other. rest)
  follows (End n first last ∷ actions) contexts live phases uses =
      let rest = follows actions contexts live (with_phase phases n Idle) (onward actions _ _ uses.1.1 uses.2) in
      head_or_tail node _ (End n first last) actions
      (λ same. let is : n ≡ node = eqb-true n node same in
      moved (Some (Sequence first last)) _ (End n first last ∷ actions_of node actions)
      (sym (subst (λ m. phase_of live phases m ≡ Some (Sequence first last)) is
      (present live phases n (Sequence first last) uses.1.0))) (
        is,
        refl,
        refl,
        moved _ (Some Idle) (actions_of node actions)
            (subst (λ m. phase_of live (with_phase phases n Idle) m ≡ Some Idle) is
            (changed live phases n Idle uses.1.0.0)) rest,
      ))
      (λ other. moved _ _ (actions_of node actions) (unchanged live phases n node Idle (differ n node other)) rest)
  follows (Destroy n ∷ actions) contexts live phases uses =
      let rest = follows actions contexts (without n live) phases (onward actions _ _ uses.1.1 uses.2) in
      head_or_tail node _ (Destroy n) actions
      (λ same. let is : n ≡ node = eqb-true n node same in
      moved (Some Idle) _ (Destroy n ∷ actions_of node actions)
      (sym (subst (λ m. phase_of live phases m ≡ Some Idle) is (present live phases n Idle uses.1.0))) (
        is,
        moved _ None (actions_of node actions)
            (subst (λ m. phase_of (without n live) phases m ≡ None) is (removed live phases n)) rest,
      ))
      (λ other. moved _ _ (actions_of node actions) (removed_other live phases n node (differ n node other)) rest)
  follows (Unload ∷ actions) contexts live phases uses =
      let none : phase_of live phases node ≡ None = ap (λ nodes. phase_of nodes phases node) uses.1.0 in
      let over : actions ≡ [] = finished actions (onward actions _ _ uses.1.1 uses.2) in
      subst (λ rest. Follows node (phase_of live phases node) (actions_of node rest)) (sym over)
      (moved None _ [] (sym none) tt)

  -- ---- from one node's actions to its instances

  -- what is left of an instance that is idle, and of one in a sequence
  record IdleRest (actions : List Action) : Type 0 where
    sequences : List (List Action)
    each : All (IsSequence node) sequences
    after : List Action
    instances : AreInstances node after
    are : actions ≡ joined sequences ++ Destroy node ∷ after

  record SequenceRest (first last : ℕ) (actions : List Action) : Type 0 where
    renders : ℕ
    after : List Action
    idle : IdleRest after
    are : actions ≡ replicate renders (Render node) ++ End node first last ∷ after

  abbrev Rest : Option Phase → List Action → Type 0
  Rest None actions = AreInstances node actions
  Rest (Some Idle) actions = IdleRest actions
  Rest (Some (Sequence first last)) actions = SequenceRest first last actions

  created : (n : ℕ) (c : Context) (actions : List Action) → n ≡ node → IdleRest actions
      → AreInstances node (Create n c ∷ actions)
  created n c actions is rest = record {
    instances = (Create node c ∷ (joined rest.sequences ++ Destroy node ∷ [])) ∷ rest.instances.instances;
    each =
        All-cons (IsInstance node) _ rest.instances.instances
        (record { context = c; sequences = rest.sequences; each = rest.each; are = refl }) rest.instances.each;
    are =
        ap (λ m. Create m c ∷ actions) is
        ∙ ap (λ xs. Create node c ∷ xs)
        (rest.are ∙ (ap (λ xs. joined rest.sequences ++ Destroy node ∷ xs) rest.instances.are ∙ sym
        (append_assoc (joined rest.sequences) (Destroy node ∷ []) (joined rest.instances.instances))));
  }

  begun : (n first last : ℕ) (actions : List Action) → n ≡ node → SequenceRest first last actions
      → IdleRest (Begin n first last ∷ actions)
  begun n first last actions is rest =
      let renders = replicate rest.renders (Render node) in
      let tail : List Action = joined rest.idle.sequences ++ Destroy node ∷ rest.idle.after in
      record {
        sequences = (Begin node first last ∷ (renders ++ End node first last ∷ [])) ∷ rest.idle.sequences;
        each =
            All-cons (IsSequence node) _ rest.idle.sequences
            (record { first = first; last = last; renders = rest.renders; are = refl }) rest.idle.each;
        after = rest.idle.after;
        instances = rest.idle.instances;
        are =
            ap (λ m. Begin m first last ∷ actions) is
            ∙ ap (λ xs. Begin node first last ∷ xs)
            (rest.are ∙ (ap (λ xs. renders ++ End node first last ∷ xs)
            rest.idle.are ∙ (sym (append_assoc renders (End node first last ∷ []) tail) ∙ sym
            (append_assoc (renders ++ End node first last ∷ []) (joined rest.idle.sequences)
            (Destroy node ∷ rest.idle.after)))));
      }

  rest_of : (actions : List Action) (phase : Option Phase) → Follows node phase actions → Rest phase actions
  rest_of [] None is = record { instances = []; each = All-nil (IsInstance node); are = refl }
  rest_of (Create n c ∷ actions) None is = created n c actions is.0 (rest_of actions (Some Idle) is.1)
  rest_of (Begin n first last ∷ actions) (Some Idle) is =
      begun n first last actions is.0 (rest_of actions (Some (Sequence first last)) is.1)
  rest_of (Destroy n ∷ actions) (Some Idle) is = record {
    sequences = [];
    each = All-nil (IsSequence node);
    after = actions;
    instances = rest_of actions None is.1;
    are = ap (λ m. Destroy m ∷ actions) is.0;
  }
  rest_of (Render n ∷ actions) (Some (Sequence first last)) is =
      let rest = rest_of actions (Some (Sequence first last)) is.1 in
      record {
        renders = suc rest.renders;
        after = rest.after;
        idle = rest.idle;
        are = ap (λ m. Render m ∷ actions)
            is.0 ∙ ap (λ xs. Render node ∷ xs) rest.are;
      }
  rest_of (End n f l ∷ actions) (Some (Sequence first last)) is = record {
    renders = 0;
    after = actions;
    idle = rest_of actions (Some Idle) is.3;
    are =
        ap (λ m. End m f l ∷ actions) is.0
        ∙ (ap (λ k. End node k l ∷ actions) is.1 ∙ ap (λ k. End node first k ∷ actions) is.2);
  }
  rest_of [] (Some Idle) is = absurd is
  rest_of [] (Some (Sequence first last)) is = absurd is
  rest_of (action ∷ actions) None is = absurd is
  rest_of (action ∷ actions) (Some Idle) is = absurd is
  rest_of (action ∷ actions) (Some (Sequence first last)) is = absurd is

  -- the node's actions are instances, from a state on in which it has none
  pub instances_of : (actions : List Action) (phases : ℕ → Phase) → Uses [] [] phases actions
      → AreInstances node (actions_of node actions)
  instances_of actions phases uses = rest_of (actions_of node actions) None (follows actions [] [] phases uses)
