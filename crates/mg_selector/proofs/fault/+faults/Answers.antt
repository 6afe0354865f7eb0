use Rattle.std.proofs.Common.{◌≡◌, string_bytes, sym, ap, ◌∙◌}
use Rattle.std.specs.Result.{result_err}
use Rattle.mg_path.specs.Part.{steps_of}
use Rattle.mg_value.specs.View.{view, members_view}
use Rattle.mg_value.proofs.Views.{Entry}
use Rattle.mg_selector.specs.Reading.{by_kind, of_object, of_arms, of_members, named, argument}
use Rattle.mg_selector.proofs.Faults.{fault_here, fault_later, fault_at_path, none_unless_some}
use Rattle.mg_selector.proofs.fault.+faults.Goals as goal

pub member_fault-returns : goal.member_fault-returns
member_fault-returns t c =
    let v = view c.args.value.now in
    let k = c.args.name.now in
    c.fault_by_kind.ensures ∙ ap (λ w. result_err (by_kind w k v (of_object v) (of_arms v))) c.kind_of_name.ensures

pub members_fault-returns-then-is_some : goal.members_fault-returns-then-is_some
members_fault-returns-then-is_some t c =
    let e : Entry = (c.in-Some.name.now, c.in-Some.value.now) in
    let v = view e.1 in
    let first = named (string_bytes e.0) v (of_object v) (of_arms v) in
    let said : c.member_fault-fault.result ≡ result_err first = c.member_fault-fault.ensures ∙ ap (λ k. result_err (named k v (of_object v) (of_arms v))) c.as_str.ensures.value in
    fault_here first (of_members (members_view c.next.new.self)) c.member_fault-fault.result said (sym (c.if-is_some.ensures {u = tt}))
    ∙ sym (c.loop-name.invariant.2 ∙ ap (λ es. result_err (of_members (members_view es))) c.in-Some.ensures.steps)

pub members_fault-loop-name-preserved : goal.members_fault-loop-name-preserved
members_fault-loop-name-preserved t c =
    let e : Entry = (c.in-Some.name.now, c.in-Some.value.now) in
    let v = view e.1 in
    let first = named (string_bytes e.0) v (of_object v) (of_arms v) in
    let said : c.member_fault-fault.result ≡ result_err first = c.member_fault-fault.ensures ∙ ap (λ k. result_err (named k v (of_object v) (of_arms v))) c.as_str.ensures.value in (
      tt,
      tt,
      c.loop-name.invariant.2 ∙ ap (λ es. result_err (of_members (members_view es))) c.in-Some.ensures.steps
          ∙ fault_later first (of_members (members_view c.next.new.self)) (sym said ∙ none_unless_some c.member_fault-fault.result (sym (c.if-is_some.ensures {u = tt}))),
    )

pub path_fault-returns-then-is_path : goal.path_fault-returns-then-is_path
path_fault-returns-then-is_path t c =
    let v = view c.args.value.now in
    c.argument_fault.ensures ∙ sym (fault_at_path (steps_of c.args.name.now) (argument v (of_object v)) (sym c.is_path.ensures ∙ c.if-is_path.true))
