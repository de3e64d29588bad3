-- A command of the code, with the bytes that it lends in place of the reference to them.
use Rattle.std.specs.Prelude.{Ok, Err, Result}
use Rattle.packet.specs.declared.command.Command.{Command as Coded}
use Rattle.packet.specs.declared.command.Command.TheVariants as code
use Rattle.packet.specs.declared.fault.PacketFault.{PacketFault}
use Rattle.packet.specs.Commands.{Command, read, write, lock, unlock, initialize_semaphores, status, initialize_area, open_write, open_read, pipe_read, pipe_write, close}

abbrev pub command_of : Coded → Command
command_of (code.Read at) = read at.size at.drive at.sector
command_of (code.Write at b) = write at.size at.drive at.sector b.now
command_of (code.Lock n) = lock n
command_of (code.Unlock n) = unlock n
command_of code.InitializeSemaphores = initialize_semaphores
command_of (code.Status k) = status k
command_of (code.InitializeArea f n) = initialize_area f n
command_of (code.OpenWrite n) = open_write n
command_of (code.OpenRead n) = open_read n
command_of (code.PipeRead n w) = pipe_read n w
command_of (code.PipeWrite n w b) = pipe_write n w b.now
command_of (code.Close n) = close n

abbrev pub said_of : Result Coded PacketFault → Result Command PacketFault
said_of (Ok c) = Ok (command_of c)
said_of (Err e) = Err e
