-- The constants are the lines of the definition.
use Rattle.std.proofs.Common.{ap, sym}
use Rattle.json.specs.Print.{escape_byte}
use Rattle.mg_engine.specs.Refusals.{refusal_body}
use Rattle.mg_engine.proofs.refusal.Refusal.body.Goals as goal

pub returns-in-InvalidJson : goal.returns-in-InvalidJson
unfolding escape_byte
returns-in-InvalidJson c = sym (ap refusal_body c.in-InvalidJson.is)

pub returns-in-WrongShape : goal.returns-in-WrongShape
unfolding escape_byte
returns-in-WrongShape c = sym (ap refusal_body c.in-WrongShape.is)

pub returns-in-InvalidOperator : goal.returns-in-InvalidOperator
unfolding escape_byte
returns-in-InvalidOperator c = sym (ap refusal_body c.in-InvalidOperator.is)

pub returns-in-BadArg : goal.returns-in-BadArg
unfolding escape_byte
returns-in-BadArg c = sym (ap refusal_body c.in-BadArg.is)

pub returns-in-NoUsableIndex : goal.returns-in-NoUsableIndex
unfolding escape_byte
returns-in-NoUsableIndex c = sym (ap refusal_body c.in-NoUsableIndex.is)

pub returns-in-BadMember : goal.returns-in-BadMember
unfolding escape_byte
returns-in-BadMember c = sym (ap refusal_body c.in-BadMember.is)

pub returns-in-BadId : goal.returns-in-BadId
unfolding escape_byte
returns-in-BadId c = sym (ap refusal_body c.in-BadId.is)

pub returns-in-BadRev : goal.returns-in-BadRev
unfolding escape_byte
returns-in-BadRev c = sym (ap refusal_body c.in-BadRev.is)

pub returns-in-Missing : goal.returns-in-Missing
unfolding escape_byte
returns-in-Missing c = sym (ap refusal_body c.in-Missing.is)

pub returns-in-Deleted : goal.returns-in-Deleted
unfolding escape_byte
returns-in-Deleted c = sym (ap refusal_body c.in-Deleted.is)

pub returns-in-NoDatabase : goal.returns-in-NoDatabase
unfolding escape_byte
returns-in-NoDatabase c = sym (ap refusal_body c.in-NoDatabase.is)

pub returns-in-MethodNotAllowed : goal.returns-in-MethodNotAllowed
unfolding escape_byte
returns-in-MethodNotAllowed c = sym (ap refusal_body c.in-MethodNotAllowed.is)

pub returns-in-LengthRequired : goal.returns-in-LengthRequired
unfolding escape_byte
returns-in-LengthRequired c = sym (ap refusal_body c.in-LengthRequired.is)

pub returns-in-TooLarge : goal.returns-in-TooLarge
unfolding escape_byte
returns-in-TooLarge c = sym (ap refusal_body c.in-TooLarge.is)

pub returns-in-HeadTooLarge : goal.returns-in-HeadTooLarge
unfolding escape_byte
returns-in-HeadTooLarge c = sym (ap refusal_body c.in-HeadTooLarge.is)

pub returns-in-OutOfMemory : goal.returns-in-OutOfMemory
unfolding escape_byte
returns-in-OutOfMemory c = sym (ap refusal_body c.in-OutOfMemory.is)

pub returns-in-BadHead : goal.returns-in-BadHead
unfolding escape_byte
returns-in-BadHead c = sym (ap refusal_body c.in-BadHead.is)

pub returns-in-BadBookmark : goal.returns-in-BadBookmark
unfolding escape_byte
returns-in-BadBookmark c = sym (ap refusal_body c.in-BadBookmark.is)

pub returns-in-MixedSort : goal.returns-in-MixedSort
unfolding escape_byte
returns-in-MixedSort c = sym (ap refusal_body c.in-MixedSort.is)
