-- What is written of what an order gives.
use Rattle.std.specs.Prelude.{ℕ, List, ◌++◌}
use Rattle.mw_isa.specs.Text.{event_lines}
use Rattle.mw_cli.specs.declared.product.Product.{Product}

-- the lines of its events, and the rest
abbrev pub bytes_of : Product → List ℕ
bytes_of product = event_lines product.events ++ product.rest
