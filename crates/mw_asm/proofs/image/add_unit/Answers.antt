use Rattle.std.proofs.Common.{◌≡◌, ◌++◌, subst, ◌∙◌}
use Rattle.std.specs.Prelude.{OnOk}
use Rattle.mw_asm.proofs.ImageLemmas.{byte-unit, long-unit, quad-unit, big_quad-unit}
use Rattle.mw_asm.proofs.image.add_unit.Goals as goal

pub returns-in-Byte : goal.returns-in-Byte
returns-in-Byte c = subst (λ bytes. OnOk c.add.result (c.add.new.self ≡ c.args.image.now ++ bytes)) (byte-unit c.args.unit c.args.number c.in-Byte.is) c.add.ensures.ok

pub returns-in-Long : goal.returns-in-Long
returns-in-Long c = subst (λ bytes. OnOk c.add-in-Long.result (c.add-in-Long.new.self ≡ c.args.image.now ++ bytes)) (c.to_le_bytes.ensures ∙ long-unit c.args.unit c.args.number c.in-Long.is) c.add-in-Long.ensures.ok

pub returns-in-Quad : goal.returns-in-Quad
returns-in-Quad c = subst (λ bytes. OnOk c.add-in-Quad.result (c.add-in-Quad.new.self ≡ c.args.image.now ++ bytes)) (c.to_le_bytes-in-Quad.ensures ∙ quad-unit c.args.unit c.args.number c.ranges.number.fits c.in-Quad.is) c.add-in-Quad.ensures.ok

pub returns-in-BigQuad : goal.returns-in-BigQuad
returns-in-BigQuad c = subst (λ bytes. OnOk c.add-in-BigQuad.result (c.add-in-BigQuad.new.self ≡ c.args.image.now ++ bytes)) (c.to_be_bytes.ensures ∙ big_quad-unit c.args.unit c.args.number c.ranges.number.fits c.in-BigQuad.is) c.add-in-BigQuad.ensures.ok
