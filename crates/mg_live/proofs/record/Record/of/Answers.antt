use Rattle.std.proofs.Common.{string_bytes}
use Rattle.mg_engine.specs.View.{command_view}
use Rattle.mg_live.specs.Keeping.{dropped_value}
use Rattle.mg_live.proofs.Keeping.{has_compact}
use Rattle.mg_live.proofs.record.Record.of.Goals as goal

pub returns-in_ok-recorded-in-PackedBulk-clause-write : goal.returns-in_ok-recorded-in-PackedBulk-clause-write
returns-in_ok-recorded-in-PackedBulk-clause-write c =
    let text = c.in_ok-text-in-PackedBulk.text.items in
    c.in_ok-recorded-in-PackedBulk.ensures (command_view c.args.command.now) (λ utf8. rw c.in-PackedBulk.is (has_compact text c.in-PackedBulk.body utf8 (rw c.part.ensures at c.in_ok-text-in-PackedBulk.ensures)))

pub returns-in_ok-recorded-in-DropIndex-clause-write : goal.returns-in_ok-recorded-in-DropIndex-clause-write
returns-in_ok-recorded-in-DropIndex-clause-write c =
    let text = c.in_ok-text-in-DropIndex.text.items in
    let value = dropped_value (string_bytes c.in-DropIndex.ddoc) (string_bytes c.in-DropIndex.name) in
    c.in_ok-recorded-in-DropIndex.ensures (command_view c.args.command.now) (λ utf8. rw c.in-DropIndex.is (has_compact text value utf8 (rw (c.as_str.ensures.value, c.as_str-in-DropIndex.ensures.value) at c.in_ok-text-in-DropIndex.ensures)))
