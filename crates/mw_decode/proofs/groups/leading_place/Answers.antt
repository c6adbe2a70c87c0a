use Rattle.std.proofs.Common.{ℕ, List, ◌+◌, ◌<◌, ◌≡◌, length, ◌/◌, ◌^◌, get_or, nat_lt, true, arith, subst}
use Rattle.std.proofs.lemmas.Bool.{and_parts, ltb-true}
use Rattle.std.proofs.lemmas.Nat.{and_le_r}
use Rattle.mw_tables.specs.declared.row.PrefixKind.{PrefixKind}
use Rattle.mw_tables.specs.Rows.{table}
use Rattle.mw_decode.specs.declared.groups.Group.{Group}
use Rattle.mw_decode.specs.Groups.{key_of, rows_lead, groups_fit, LeadsTo}
use Rattle.mw_decode.proofs.Leads.{IsNear, group-fits, get_or-rows}
use Rattle.mw_decode.proofs.groups.leading_place.Goals as goal

-- what the group of the word's opcode is
record Fits (kind : PrefixKind) (word : ℕ) (group : Group) : Type 0 where
  shift : group.shift < 32
  key : key_of group word < length group.places.now
  rows : rows_lead kind (word / 67108864) group table 0 ≡ true

fits : (kind : PrefixKind) (word : ℕ) (groups : List Group) (past : Group) → groups_fit kind table 0 groups ≡ true → length groups ≡ 64 → word < 2 ^ 32 → Fits kind word (get_or groups (word / 67108864) past)
fits kind word groups past fit count small =
    let within : word / 67108864 < length groups = omega arith in
    let both = group-fits kind table groups 0 (word / 67108864) past fit within in
    let group : Group = get_or groups (word / 67108864) past in
    let whole = and_parts (nat_lt group.shift 32) (nat_lt group.mask (length group.places.now)) both.0 in
    let mask : group.mask < length group.places.now = ltb-true _ _ whole.1 in
    let start : 0 + word / 67108864 ≡ word / 67108864 = omega arith in
    record {
      shift = ltb-true _ _ whole.0;
      key = omega (arith, and_le_r (word / 2 ^ group.shift) group.mask);
      rows = subst (λ n. rows_lead kind n group table 0 ≡ true) start both.1;
    }

led : (kind : PrefixKind) (word : ℕ) (group : Group) → Fits kind word group → LeadsTo kind word (get_or group.places.now (key_of group word) 0)
led kind word group fits other there =
    let start : 0 + other ≡ other = omega arith in
    subst (λ n. IsNear (get_or group.places.now (key_of group word) 0) n) start
    (get_or-rows table kind group 0 word other fits.rows fits.key there)

pub overflow_shr-result : goal.overflow_shr-result
overflow_shr-result c = (fits c.args.kind c.args.word c.groups_of.result.now _ c.groups_of.ensures.fit c.groups_of.ensures.count c.ranges.word.fits).shift

pub bounds-group-word : goal.bounds-group-word
bounds-group-word c = (fits c.args.kind c.args.word c.groups_of.result.now _ c.groups_of.ensures.fit c.groups_of.ensures.count c.ranges.word.fits).key

pub returns : goal.returns
returns c = led c.args.kind c.args.word _ (fits c.args.kind c.args.word c.groups_of.result.now _ c.groups_of.ensures.fit c.groups_of.ensures.count c.ranges.word.fits)
