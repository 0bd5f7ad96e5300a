-- A course from a plug-in that isn't loaded to one that is unloaded is a lawful life.
use Rattle.std.proofs.Common.{◌≡◌, ℕ, zero, suc, ◌<◌, List, [], ◌∷◌, ◌++◌, length, get_or, All, Contains, ◌⊎◌, inl, inr, sym, refl, ap, ◌∙◌, subst, arith}
use Rattle.std.proofs.lemmas.List.Elements.{All-cons, All-nil, Contains-append_left, Contains-append_cases, Contains-push}
use Rattle.fx_effect.specs.declared.action.Context.{Context}
use Rattle.fx_life.specs.Plugin.{without}
use Rattle.fx_life.specs.Course.{Phase, Idle, Sequence, with_phase, Action, Load, Describe, DescribeInContext, Create, Begin, Render, End, Destroy, Unload, State, NotLoaded, Loaded, Described, Unloaded, Allows, IsCourse}
use Rattle.fx_life.specs.Life.{actions_of, IsInstance, AreInstances, IsUse, IsWhole, IsLawfulLife}
use Rattle.fx_life.proofs.Nodes.{Uses, onward, finished, instances_of}

-- ---- members of a list

module _ {A : Type 0} where
  cases : (y : A) (xs : List A) (x : A) → Contains (y ∷ xs) x → (y ≡ x) ⊎ Contains xs x
  cases y xs x c = at c.0 c.1 c.2 where
    at : (k : ℕ) → k < length (y ∷ xs) → get_or (y ∷ xs) k x ≡ x → (y ≡ x) ⊎ Contains xs x
    at zero h e = inl e
    at (suc k) h e = inr (k, omega arith, e)

  none_in : (x : A) → Contains [] x → ⊥
  none_in x c = let h : c.0 < 0 = c.1 in omega arith

  first : (x : A) (xs : List A) → Contains (x ∷ xs) x
  first x xs = (0, omega arith, refl)

  later : (y : A) (xs : List A) (x : A) → Contains xs x → Contains (y ∷ xs) x
  later y xs x c = let within = c.1 in (suc c.0, omega arith, c.2)

-- ---- the ends of a life

-- what is asked of a described plug-in until it is unloaded
record UsesOf (actions : List Action) : Type 0 where
  uses : List Action
  each : All IsUse uses
  are : actions ≡ uses ++ Unload ∷ []

one_more : (action : Action) (actions : List Action) → IsUse action → UsesOf actions → UsesOf (action ∷ actions)
one_more action actions is more = record {
  uses = action ∷ more.uses;
  each = All-cons IsUse action more.uses is more.each;
  are = ap (λ xs. action ∷ xs) more.are;
}

uses_of : (actions : List Action) (contexts : List Context) (live : List ℕ) (phases : ℕ → Phase)
    → Uses contexts live phases actions → UsesOf actions
uses_of [] contexts live phases is = cc
uses_of (Load ∷ actions) contexts live phases is = absurd is.1
uses_of (Describe ∷ actions) contexts live phases is = absurd is.1
uses_of (DescribeInContext c ∷ actions) contexts live phases is =
    one_more (DescribeInContext c) actions tt
    (uses_of actions (contexts ++ c ∷ []) live phases (onward actions _ _ is.1.1 is.2))
uses_of (Create n c ∷ actions) contexts live phases is =
    one_more (Create n c) actions tt
    (uses_of actions contexts (live ++ n ∷ []) (with_phase phases n Idle) (onward actions _ _ is.1.2 is.2))
uses_of (Begin n first last ∷ actions) contexts live phases is =
    one_more (Begin n first last) actions tt
    (uses_of actions contexts live (with_phase phases n (Sequence first last)) (onward actions _ _ is.1.1 is.2))
uses_of (Render n ∷ actions) contexts live phases is =
    one_more (Render n) actions tt (uses_of actions contexts live phases (onward actions _ _ is.1.1 is.2))
uses_of (End n first last ∷ actions) contexts live phases is =
    one_more (End n first last) actions tt
    (uses_of actions contexts live (with_phase phases n Idle) (onward actions _ _ is.1.1 is.2))
uses_of (Destroy n ∷ actions) contexts live phases is =
    one_more (Destroy n) actions tt (uses_of actions contexts (without n live) phases (onward actions _ _ is.1.1 is.2))
uses_of (Unload ∷ actions) contexts live phases is = record {
  uses = [];
  each = All-nil IsUse;
  are = ap (λ xs. Unload ∷ xs) (finished actions (onward actions _ _ is.1.1 is.2));
}

-- a life is loading and unloading at once, or what comes after the description is a described plug-in's course
Opening : List Action → Type 0
Opening life =
    (life ≡ Load ∷ Unload ∷ [])
    ⊎ ((actions : List Action) × (phases : ℕ → Phase) × Uses [] [] phases actions × (life ≡ Load ∷ Describe ∷ actions))

opened : (actions : List Action) (t : State) → Allows Loaded Describe t → IsCourse t actions Unloaded
    → Opening (Load ∷ Describe ∷ actions)
unfolding Opening
opened actions NotLoaded is rest = absurd is
opened actions Loaded is rest = absurd is
opened actions Unloaded is rest = absurd is
opened actions (Described contexts live phases) is rest =
    inr (
      actions,
      phases,
      onward actions _ _
          (ap (λ cs. Described cs live phases) is.0 ∙ ap (λ nodes. Described [] nodes phases) is.1) rest,
      refl,
    )

after_load : (actions : List Action) → IsCourse Loaded actions Unloaded → Opening (Load ∷ actions)
unfolding Opening
after_load [] is = cc
after_load (Describe ∷ actions) is = opened actions is.0 is.1 is.2
after_load (Unload ∷ actions) is = inl (ap (λ xs. Load ∷ Unload ∷ xs) (finished actions (onward actions _ _ is.1 is.2)))
after_load (action ∷ actions) is = absurd is.1

opening : (life : List Action) → IsCourse NotLoaded life Unloaded → Opening life
opening [] is = cc
opening (Load ∷ actions) is = after_load actions (onward actions _ _ is.1 is.2)
opening (action ∷ actions) is = absurd is.1

whole : (life : List Action) → Opening life → IsWhole life
unfolding Opening
whole life (inl at_once) = inl at_once
whole life (inr (actions, phases, is, are)) =
    let uses = uses_of actions [] [] phases is in
    inr (uses.uses, uses.each, are ∙ ap (λ xs. Load ∷ Describe ∷ xs) uses.are)

instances : (life : List Action) → Opening life → (node : ℕ) → AreInstances node (actions_of node life)
unfolding Opening
instances life (inl at_once) node =
    subst (λ xs. AreInstances node (actions_of node xs)) (sym at_once)
    (record { instances = []; each = All-nil (IsInstance node); are = refl })
instances life (inr (actions, phases, is, are)) node =
    subst (λ xs. AreInstances node (actions_of node xs)) (sym are) (instances_of node actions phases is)

-- ---- contexts

-- the context was described, or the plug-in is unloaded: it won't be described from here on
abbrev Past : Context → State → Type 0
Past c (Described contexts live phases) = Contains contexts c
Past c Unloaded = Unit {0}
Past c s = ⊥

stays_past : (c : Context) (s : State) (action : Action) (t : State) → Allows s action t → Past c s → Past c t
stays_past c NotLoaded action t is past = absurd past
stays_past c Loaded action t is past = absurd past
stays_past c Unloaded action t is past = absurd is
stays_past c (Described contexts live phases) (DescribeInContext d) t is past =
    subst (Past c) (sym is.1) (Contains-append_left contexts (d ∷ []) c past)
stays_past c (Described contexts live phases) (Create n d) t is past = subst (Past c) (sym is.2) past
stays_past c (Described contexts live phases) (Begin n f l) t is past = subst (Past c) (sym is.1) past
stays_past c (Described contexts live phases) (Render n) t is past = subst (Past c) (sym is.1) past
stays_past c (Described contexts live phases) (End n f l) t is past = subst (Past c) (sym is.1) past
stays_past c (Described contexts live phases) (Destroy n) t is past = subst (Past c) (sym is.1) past
stays_past c (Described contexts live phases) Unload t is past = subst (Past c) (sym is.1) tt
stays_past c (Described contexts live phases) Load t is past = absurd is
stays_past c (Described contexts live phases) Describe t is past = absurd is

not_past : (c : Context) (s t : State) → Allows s (DescribeInContext c) t → Past c s → ⊥
not_past c NotLoaded t is past = past
not_past c Loaded t is past = past
not_past c Unloaded t is past = is
not_past c (Described contexts live phases) t is past = is.0 past

now_past : (c : Context) (s t : State) → Allows s (DescribeInContext c) t → Past c t
now_past c NotLoaded t is = absurd is
now_past c Loaded t is = absurd is
now_past c Unloaded t is = absurd is
now_past c (Described contexts live phases) t is = subst (Past c) (sym is.1) (Contains-push contexts c)

not_again : (c : Context) (before after : List Action) (s : State) → Past c s
    → IsCourse s (before ++ DescribeInContext c ∷ after) Unloaded → ⊥
not_again c [] after s past is = not_past c s is.0 is.1 past
not_again c (action ∷ before) after s past is =
    not_again c before after is.0 (stays_past c s action is.0 is.1 past) is.2

once : (c : Context) (before after : List Action) (s : State)
    → IsCourse s (before ++ DescribeInContext c ∷ after) Unloaded → Contains before (DescribeInContext c) → ⊥
once c [] after s is there = none_in (DescribeInContext c) there
once c (action ∷ before) after s is there = elim (cases action before (DescribeInContext c) there) [
  | inl same ↦ not_again c before after is.0 (now_past c s is.0 (subst (λ a. Allows s a is.0) same is.1)) is.2
  | inr later ↦ once c before after is.0 is.2 later
]

-- the contexts in which the plug-in was described
abbrev Knows : Context → State → Type 0
Knows c (Described contexts live phases) = Contains contexts c
Knows c s = ⊥

-- a context is known since it was described
learns : (c : Context) (s : State) (action : Action) (t : State) → Allows s action t → Knows c t
    → Knows c s ⊎ (action ≡ DescribeInContext c)
learns c NotLoaded Load t is knows = absurd (subst (Knows c) is knows)
learns c NotLoaded action t is knows = absurd is
learns c Loaded Describe (Described contexts live phases) is knows =
    absurd (none_in c (subst (λ cs. Contains cs c) is.0 knows))
learns c Loaded Describe t is knows = absurd is
learns c Loaded Unload t is knows = absurd (subst (Knows c) is knows)
learns c Loaded action t is knows = absurd is
learns c Unloaded action t is knows = absurd is
learns c (Described contexts live phases) (DescribeInContext d) t is knows =
    elim (Contains-append_cases contexts (d ∷ []) c (subst (Knows c) is.1 knows)) [
      | inl before ↦ inl before
      | inr now ↦
          elim (cases d [] c now) [
            | inl same ↦ inr (ap (λ e. DescribeInContext e) same)
            | inr none ↦ absurd (none_in c none)
          ]
    ]
learns c (Described contexts live phases) (Create n d) t is knows = inl (subst (Knows c) is.2 knows)
learns c (Described contexts live phases) (Begin n f l) t is knows = inl (subst (Knows c) is.1 knows)
learns c (Described contexts live phases) (Render n) t is knows = inl (subst (Knows c) is.1 knows)
learns c (Described contexts live phases) (End n f l) t is knows = inl (subst (Knows c) is.1 knows)
learns c (Described contexts live phases) (Destroy n) t is knows = inl (subst (Knows c) is.1 knows)
learns c (Described contexts live phases) Unload t is knows = absurd (subst (Knows c) is.1 knows)
learns c (Described contexts live phases) action t is knows = absurd is

created_in : (c : Context) (node : ℕ) (s t : State) → Allows s (Create node c) t → Knows c s
created_in c node NotLoaded t is = absurd is
created_in c node Loaded t is = absurd is
created_in c node Unloaded t is = absurd is
created_in c node (Described contexts live phases) t is = is.0

described : (c : Context) (node : ℕ) (before after : List Action) (s : State)
    → IsCourse s (before ++ Create node c ∷ after) Unloaded → Knows c s ⊎ Contains before (DescribeInContext c)
described c node [] after s is = inl (created_in c node s is.0 is.1)
described c node (action ∷ before) after s is = elim (described c node before after is.0 is.2) [
  | inl knows ↦ elim (learns c s action is.0 is.1 knows) [
    | inl earlier ↦ inl earlier
    | inr now ↦
        inr (subst (λ a. Contains (a ∷ before) (DescribeInContext c)) (sym now)
        (first (DescribeInContext c) before))
  ]
  | inr there ↦ inr (later action before (DescribeInContext c) there)
]

described_before : (c : Context) (node : ℕ) (before after : List Action)
    → IsCourse NotLoaded (before ++ Create node c ∷ after) Unloaded → Contains before (DescribeInContext c)
described_before c node before after is =
    elim (described c node before after NotLoaded is) [ inl none ↦ absurd none | inr there ↦ there ]

-- every course is a lawful life
pub is_lawful : (life : List Action) → IsCourse NotLoaded life Unloaded → IsLawfulLife life
is_lawful life is = record {
  whole = whole life (opening life is);
  once = λ before after c are. once c before after NotLoaded (subst (λ xs. IsCourse NotLoaded xs Unloaded) are is);
  described =
      λ before after node c are. described_before c node before after
      (subst (λ xs. IsCourse NotLoaded xs Unloaded) are is);
  instances = instances life (opening life is);
}
