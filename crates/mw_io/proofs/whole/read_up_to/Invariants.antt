use Rattle.std.proofs.Common.{◌≡◌, ◌+◌, ◌-◌, ◌≤◌, ◌++◌, IsTrue, OnSome, drop, vec_len}
use Rattle.mw_io.specs.Outside.{RoseBy}
use Rattle.mw_io.proofs.whole.read_up_to.Given as goal

abbrev pub invariant-loop-buf : goal.invariant-loop-buf
invariant-loop-buf g l = record {
  within : vec_len l.bytes ≤ l.limit + 1;
  joined : OnSome (g.H.Host.state l.fn.host).files (l.bytes.items ++ (g.H.Host.state l.host).rest ≡ (g.H.Host.state l.fn.host).rest);
  still_open : IsTrue (g.H.Host.state l.host).is_open;
  passed : OnSome (g.H.Host.state l.fn.host).files ((g.H.Host.state l.host).rest ≡ drop (vec_len l.bytes) (g.H.Host.state l.fn.host).rest);
  same_files : (g.H.Host.state l.host).files ≡ (g.H.Host.state l.fn.host).files;
  faults : (g.H.Host.state l.host).faults ≡ (g.H.Host.state l.fn.host).faults;
  opened : (g.H.Host.state l.host).opened ≡ (g.H.Host.state l.fn.host).opened;
  given : RoseBy (vec_len l.bytes) (g.H.Host.state l.fn.host).given (g.H.Host.state l.host).given;
  sound : IsTrue (g.H.Host.state l.fn.host).is_sound → IsTrue (g.H.Host.state l.host).is_sound;
}

abbrev pub decreases-loop-buf : goal.decreases-loop-buf
decreases-loop-buf g l = (l.limit + 1) - vec_len l.bytes
