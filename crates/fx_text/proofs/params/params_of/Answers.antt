use Rattle.std.proofs.Common.{◌≡◌, ◌≢◌, rules, Err}
use Rattle.serde_json.specs.View.{members_view}
use Rattle.fx_text.specs.Fault.{told}
use Rattle.fx_text.specs.Json.{read_members}
use Rattle.fx_text.specs.declared.fault.GraphFault.TheVariants.{Memory}
use Rattle.fx_text.specs.Values.{param_of}
use Rattle.fx_text.proofs.Faults.{member_fault}
use Rattle.fx_text.proofs.Rising.{params_rise}
use Rattle.fx_text.proofs.Rows.{next_member, no_member_left}
use Rattle.fx_text.proofs.params.params_of.Goals as goal

pub loop-name-preserved : goal.loop-name-preserved
loop-name-preserved c =
    next_member (param_of c.args.path.now) c.loop-name.name-iterator c.next.new.self c.in-Some.name.now c.in-Some.value.now c.as_str.result.now c.loop-name.params.items c.push.new.self.items c.in_ok-param.param _
    c.in-Some.ensures.steps c.as_str.ensures.value c.in_ok-push.ensures.items c.in_ok-param.ensures.0 c.loop-name.invariant

pub of-requires : goal.of-requires
of-requires c =
    let entries = c.args.members.now.entries in
    let path = c.args.path.now in
    params_rise path entries c.loop-name.params.items c.iter-name-items.ensures.ordered
    (no_member_left (param_of path) entries c.loop-name.name-iterator c.loop-name.params.items c.in-None.ensures.steps.0 c.loop-name.invariant)

pub returns-in_err-param : goal.returns-in_err-param
returns-in_err-param c =
    let read = param_of c.args.path.now in
    let e = c.in_err-param.field-0.0 in
    let fault : e ≢ Memory → read_members read (members_view c.args.members.now.entries) ≡ Err (told e) = λ other.
    member_fault read c.loop-name.name-iterator c.next.new.self c.in-Some.name.now c.in-Some.value.now c.as_str.result.now c.loop-name.params.items _ _
    c.in-Some.ensures.steps c.as_str.ensures.value (c.in_err-param.ensures.1 other) c.loop-name.invariant in
    search (rules, fault)
