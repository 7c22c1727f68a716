-- A server over the world with its connections.
use Rattle.moo_disk.specs.Disk.{DiskKind}
use Rattle.moo_server_core.specs.Server.{Follows as FollowsOver, WithDisk}
use Rattle.moo_server.specs.Live.{live_layer}
use Rattle.moo_server.specs.declared.moo_application.MooApplication.{MooApplication}

-- no event is being taken, and the disk is as the last call left it, perhaps with a wrapper put round it since
abbrev pub Follows : {D : Type 0} → DiskKind D → WithDisk MooApplication D → Type 0
Follows kind now = FollowsOver live_layer kind now
