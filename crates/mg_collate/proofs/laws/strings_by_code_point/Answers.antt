use Rattle.std.proofs.Common.{◌∙◌}
use Rattle.std.specs.Str.{encode_utf8_all}
use Rattle.mg_collate.proofs.CodePoints.{by_code_point}
use Rattle.mg_collate.proofs.Flat.{text_order}
use Rattle.mg_collate.proofs.laws.strings_by_code_point.Goals as goal

pub returns-clause-bytes : goal.returns-clause-bytes
returns-clause-bytes c = text_order

pub returns-clause-code_points : goal.returns-clause-code_points
returns-clause-code_points c cs ds = text_order (encode_utf8_all cs) (encode_utf8_all ds) ∙ by_code_point cs ds
