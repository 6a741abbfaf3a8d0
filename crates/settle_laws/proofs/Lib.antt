pub mod After
pub mod AgainKept
pub mod Alike
pub mod AlikeItems
pub mod AlikePlaces
pub mod AllInPlace
pub mod AllStand
pub mod Anew
pub mod BarReach
pub mod BusPlaced
pub mod Climbs
pub mod ClosedImages
pub mod ClosedMoves
pub mod ClosedSame
pub mod Commands
pub mod EachPlaced
pub mod Examples
pub mod Few
pub mod Finding
pub mod GrowingPlaces
pub mod GrownAlready
pub mod HeaderParts
pub mod Held
pub mod Images
pub mod InLists
pub mod InPlace
pub mod InWindows
pub mod IoAlone
pub mod ItemForms
pub mod ItemRanks
pub mod Keeping
pub mod Kept
pub mod KeptAside
pub mod KeptTaken
pub mod Left
pub mod LowWindows
pub mod NewPlaces
pub mod NoLarger
pub mod NonePasses
pub mod NothingGrows
pub mod NothingSettled
pub mod Numbers
pub mod NumbersPut
pub mod OneByOne
pub mod OnlyOpened
pub mod Outside
pub mod PartClaims
pub mod PartClasses
pub mod PartPlaces
pub mod Pieces
pub mod PlacedBus
pub mod PlacesFit
pub mod PlannedRoots
pub mod PlannedSizes
pub mod PoolLists
pub mod Powers
pub mod PutTwice
pub mod Reput
pub mod Resting
pub mod RomPlaces
pub mod SettledAlready
pub mod SettledMoved
pub mod SettledSound
pub mod SettlingEnds
pub mod Shown
pub mod ShownKept
pub mod ShownParts
pub mod SoundKept
pub mod StageBounds
pub mod StageLeft
pub mod StageParts
pub mod StagePrefixes
pub mod StageProgress
pub mod StageRegisters
pub mod StageStops
pub mod StageWindows
pub mod Stages
pub mod StandingAbove
pub mod StandingPlaces
pub mod Staying
pub mod StayingRests
pub mod StillHeld
pub mod Stopping
pub mod Told
pub mod TurnFalls
pub mod Unchanged
pub mod Unleft
pub mod Untold
pub mod WideWindows
pub mod WindowBytes
pub mod Wishing
pub mod Zipped
pub mod Order
pub mod Standing
pub mod Apart
pub mod Ranks
pub mod Passes
pub mod Holding
pub mod Reach
pub mod There
pub mod ThereApart
pub mod ThereByBus
pub mod ThereAlone
pub mod StandingKept
pub mod GrowingKept
pub mod StandingTold
mod ClaimedParts
mod PlannedExamples
mod HostSound
mod JustPools
mod Placed
mod RootRanges
mod SentLists
mod SettledStands
mod ShownPlaces
mod PlannedStanding
mod StandingSound
mod Switched
mod SwitchedStands
mod Uncut
