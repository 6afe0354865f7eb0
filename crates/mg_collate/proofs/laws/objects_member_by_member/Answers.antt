use Rattle.mg_collate.proofs.Flat.{members_order-member}
use Rattle.mg_collate.proofs.laws.objects_member_by_member.Goals as goal

pub returns-clause-first_difference : goal.returns-clause-first_difference
returns-clause-first_difference c = members_order-member
