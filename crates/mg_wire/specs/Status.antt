-- The statuses that a service may give (RFC 9110, section 15). Each is final, and none is 204 or 205.
use Rattle.std.specs.Prelude.{ℕ, Bool, true, false, List, codes}
use Rattle.mg_wire.specs.declared.status.Status.{Status}
use Rattle.mg_wire.specs.declared.status.Status.TheVariants as Is

-- the three digits of the status
abbrev pub code_of : Status → ℕ
code_of Is.Ok = 200
code_of Is.Created = 201
code_of Is.Accepted = 202
code_of Is.NotModified = 304
code_of Is.BadRequest = 400
code_of Is.Unauthorized = 401
code_of Is.Forbidden = 403
code_of Is.NotFound = 404
code_of Is.MethodNotAllowed = 405
code_of Is.NotAcceptable = 406
code_of Is.Conflict = 409
code_of Is.PreconditionFailed = 412
code_of Is.ContentTooLarge = 413
code_of Is.UnsupportedMediaType = 415
code_of Is.InternalServerError = 500
code_of Is.NotImplemented = 501
code_of Is.ServiceUnavailable = 503

-- a response with the status has content: a 304 has none (RFC 9110, section 15.4.5)
abbrev pub has_content : Status → Bool
has_content Is.NotModified = false
has_content status = true

-- its name in the RFC
abbrev pub reason_of : Status → List ℕ
reason_of Is.Ok = codes "OK"
reason_of Is.Created = codes "Created"
reason_of Is.Accepted = codes "Accepted"
reason_of Is.NotModified = codes "Not Modified"
reason_of Is.BadRequest = codes "Bad Request"
reason_of Is.Unauthorized = codes "Unauthorized"
reason_of Is.Forbidden = codes "Forbidden"
reason_of Is.NotFound = codes "Not Found"
reason_of Is.MethodNotAllowed = codes "Method Not Allowed"
reason_of Is.NotAcceptable = codes "Not Acceptable"
reason_of Is.Conflict = codes "Conflict"
reason_of Is.PreconditionFailed = codes "Precondition Failed"
reason_of Is.ContentTooLarge = codes "Content Too Large"
reason_of Is.UnsupportedMediaType = codes "Unsupported Media Type"
reason_of Is.InternalServerError = codes "Internal Server Error"
reason_of Is.NotImplemented = codes "Not Implemented"
reason_of Is.ServiceUnavailable = codes "Service Unavailable"
