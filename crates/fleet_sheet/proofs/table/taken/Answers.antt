use Rattle.std.proofs.Common.{◌≡◌, ℕ, ◌<◌, ◌≤◌, Bool, List, length, length-take-le, set, sym, ap, ◌∙◌, subst, arith, rules}
use lib.ListN.{length-map}
use Rattle.fleet_sheet.specs.declared.table.DeviceRow.{DeviceRow}
use Rattle.fleet_sheet.specs.Table.{Small, Rising, devices_in, rows_in, row_at, no_row, place_of, single, merge, shifted}
use Rattle.fleet_sheet.proofs.TableLaws.{map_at, map-set, set_back}
use Rattle.fleet_sheet.proofs.GapLaws.{map-shifted}
use Rattle.fleet_sheet.proofs.TakenLaws.{Found, skips, inside, joins, refuses, opens}
use Rattle.fleet_sheet.proofs.PlaceLaws.{moved_on, front_devices, there_in_front}
use Rattle.fleet_sheet.proofs.RowLaws.{single-small}
use Rattle.fleet_sheet.proofs.table.taken.Goals as goal
use Rattle.fleet_sheet.proofs.table.taken.Goals.{After-is_there}

long : (c : After-is_there) → c.args.n ≤ length c.args.table.now
long c = omega (arith, c.requires.0, let n : length c.args.table.now ≡ 256 = search rules in n)

abbrev none : DeviceRow
none = record { device = 0; row = no_row }

-- what the code has found
found : (c : After-is_there) → Found c.args.r.bytes.now c.args.n (devices_in c.args.table.now) c.device-device.result c.place-p.result c.is_there.result
found c =
    let t = c.args.table.now in record {
      message = sym c.is_message.ensures ∙ c.if-not-is_message.false;
      device = c.device-device.ensures;
      place = c.place-p.ensures.0 ∙ ap (place_of c.device-device.result) (front_devices c.args.n t (long c));
      there = sym (c.is_there.ensures ∙ there_in_front c.args.n t (long c) c.device-device.result c.place-p.result);
    }

known : (c : After-is_there) → {b : Bool} → c.is_there.result ≡ b → Found c.args.r.bytes.now c.args.n (devices_in c.args.table.now) c.device-device.result c.place-p.result b
known c e = subst (Found c.args.r.bytes.now c.args.n (devices_in c.args.table.now) c.device-device.result c.place-p.result) e (found c)

pub returns-then-not-is_message : goal.returns-then-not-is_message
returns-then-not-is_message c =
    let a = c.args in
    skips a.r.bytes.now a.n (devices_in a.table.now) (rows_in a.table.now) (sym c.is_message.ensures ∙ c.if-not-is_message.true)

pub place-p-requires : goal.place-p-requires
place-p-requires c =
    let a = c.args in
    subst Rising (sym (front_devices a.n a.table.now (omega (arith, c.requires.0, let n : length a.table.now ≡ 256 = search rules in n)))) c.requires.1

pub merge-requires : goal.merge-requires
merge-requires c =
    let a = c.args in
    let t = a.table.now in
    let at = (goal.at.merge-requires c).After-is_there in
    let f = known at c.if-is_there.true in
    let i = inside a.r.bytes.now a.n (devices_in t) (rows_in t) c.device-device.result c.place-p.result f in (
      subst Small (map_at (λ r. r.row) t c.place-p.result _ no_row (omega (arith, i, long at))) (c.requires.2 c.place-p.result i),
      subst Small (sym c.single-m.ensures) (single-small a.r.bytes.now),
    )

pub returns-then-is_there : goal.returns-then-is_there
returns-then-is_there c =
    let a = c.args in
    let t = a.table.now in
    let p = c.place-p.result in
    let at = (goal.at.returns-then-is_there c).After-is_there in
    let f = known at c.if-is_there.true in
    let b : p < length t = omega (arith, inside a.r.bytes.now a.n (devices_in t) (rows_in t) c.device-device.result p f, long at) in
    let e : c.merge.result ≡ merge (row_at (rows_in t) p) (single a.r.bytes.now) =
    c.merge.ensures ∙ cc (sym (map_at (λ (r : DeviceRow). r.row) t p none no_row b), c.single-m.ensures) in
    let w = joins a.r.bytes.now a.n (devices_in t) (rows_in t) c.device-device.result p f _ (map-set (λ r. r.row) t p _ ∙ ap (set (rows_in t) p) e) in
    (w.0, map-set (λ r. r.device) t p _ ∙ ap (set (devices_in t) p) (sym (map_at (λ r. r.device) t p _ 0 b)) ∙ set_back (devices_in t) p 0 (omega (arith, b, length-map t (λ r. r.device))) ∙ w.1, w.2)

pub returns-then-n-ge-MOST_DEVICES : goal.returns-then-n-ge-MOST_DEVICES
returns-then-n-ge-MOST_DEVICES c =
    let a = c.args in
    let t = a.table.now in
    let at = (goal.at.returns-then-n-ge-MOST_DEVICES c).After-is_there in
    refuses a.r.bytes.now a.n (devices_in t) (rows_in t) c.device-device.result c.place-p.result (known at c.if-is_there.false) (omega (arith, c.if-n-ge-MOST_DEVICES.true))

pub returns : goal.returns
returns c =
    let a = c.args in
    let t = a.table.now in
    let p = c.place-p.result in
    let at = (goal.at.returns c).After-is_there in
    let m : c.copy_within.new.self ≡ shifted 1 p a.n t = c.copy_within.ensures.after ∙ moved_on 1 p a.n t (omega (arith, c.place-p.ensures.1, length-take-le a.n t (long at))) in
    opens a.r.bytes.now a.n (devices_in t) (rows_in t) c.device-device.result p (known at c.if-is_there.false) (omega (arith, c.if-n-ge-MOST_DEVICES.false)) _ _
    (map-set (λ r. r.device) c.copy_within.new.self p _ ∙ ap (λ (l : List ℕ). set l p c.device-device.result) (ap devices_in m ∙ map-shifted (λ r. r.device) 1 p a.n t))
    (map-set (λ r. r.row) c.copy_within.new.self p _ ∙ cc (ap rows_in m ∙ map-shifted (λ r. r.row) 1 p a.n t, c.single-m.ensures))
