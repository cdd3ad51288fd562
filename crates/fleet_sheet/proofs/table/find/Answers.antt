use Rattle.std.proofs.Common.{ltb, rules}
use Rattle.std.proofs.lemmas.List.Sorted.{IsPartitionPoint-from_clause, IsPartitionedBy-ltb}
use Rattle.fleet_sheet.specs.declared.table.DeviceRow.{DeviceRow}
use Rattle.fleet_sheet.proofs.PlaceLaws.{place_at_point, never_down}
use Rattle.fleet_sheet.proofs.table.find.Goals as goal

pub returns : goal.returns
returns c =
    let t = c.args.table.now in
    let parted = IsPartitionedBy-ltb (λ (r : DeviceRow). r.device) t c.args.d (never_down t c.requires) in
    let point = IsPartitionPoint-from_clause (λ (r : DeviceRow). ltb r.device c.args.d) _ _ c.partition_point.ensures.partitioned parted (λ a r q k. search rules) in
    (place_at_point t c.args.d c.partition_point.result c.partition_point.ensures.bound point, c.partition_point.ensures.bound)
