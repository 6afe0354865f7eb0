-- What to do after a failed accept (accept(2) of Linux).
use Rattle.std.specs.Prelude.{ℤ, pos, Bool, ◌||◌, if◌then◌else◌, Option, None, Some}
use Rattle.std.specs.Ordering.{int_eq}
use Rattle.std.specs.declared.io.ErrorKind.{ErrorKind}
use Rattle.std.specs.declared.io.ErrorKind.TheVariants as kind
use Rattle.mg_server.specs.declared.faults.AfterFault.{AfterFault}
use Rattle.mg_server.specs.declared.faults.AfterFault.TheVariants.{Again, AtAnEvent, Never, Soon, WithMore}

-- whether the number means that the listener is gone: EBADF, EINVAL or ENOTSOCK
abbrev pub is_gone : ℤ → Bool
is_gone number = int_eq number (pos 9) || (int_eq number (pos 22) || int_eq number (pos 88))

-- whether the number means that descriptors, buffers or memory ran out: ENOMEM, ENFILE, EMFILE or ENOBUFS
abbrev pub is_shortage : ℤ → Bool
is_shortage number = int_eq number (pos 12) || (int_eq number (pos 23) || (int_eq number (pos 24) || int_eq number (pos 105)))

-- what to do after a failed accept whose number decides nothing, by its kind
abbrev pub after_kind : ErrorKind → AfterFault
after_kind kind.WouldBlock = AtAnEvent
after_kind kind.OutOfMemory = WithMore
after_kind kind.ConnectionAborted = Again
after_kind _ = Soon

-- what to do after a failed accept: only a number that means that the listener is gone ends the accepting
abbrev pub after_fault : ErrorKind → Option ℤ → AfterFault
after_fault kind None = after_kind kind
after_fault kind (Some number) = if is_gone number then Never else if is_shortage number then WithMore else after_kind kind
