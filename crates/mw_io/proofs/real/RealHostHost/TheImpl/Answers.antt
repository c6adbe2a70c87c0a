-- Since the host tells no files, what its trait ensures of bytes holds of every read.
use Rattle.std.proofs.Common.{false, Result, Ok, Err, IfOk, OnErr, IsTrue, refl}
use Rattle.std.specs.Bool.{⊤}
use Rattle.mw_io.proofs.real.RealHostHost.TheImpl.Goals as goal

any_ok : {T E : Type 0} (r : Result T E) → IfOk r (λ _. ⊤)
any_ok (Ok x) = tt
any_ok (Err e) = tt

any_err : {T E P : Type 0} (r : Result T E) → P → OnErr r P
any_err (Ok x) p = tt
any_err (Err e) p = p

never : {P : Type 0} → IsTrue false → P
never h = absurd (cc)

pub read-tells : goal.read-tells
read-tells g c = record {
  count = c.ensures.count;
  bytes = any_ok c.result;
  left = any_ok c.result;
  end = any_ok c.result;
  failed = any_err c.result refl;
  still_open = c.ensures.still_open;
  same_files = refl;
  cause = c.ensures.cause;
  opened = c.ensures.asked;
  given = c.ensures.given;
  stays_sound = λ h. h;
  sure = λ h. never h;
}
